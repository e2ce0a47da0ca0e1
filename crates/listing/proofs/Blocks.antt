-- The records of a block, one after the other.
use Rattle.std.proofs.Common.{◌≡◌, ℕ, suc, ◌+◌, ◌-◌, ◌*◌, ◌/◌, ◌<◌, ◌≤◌, ◌^◌, min, take_all, List, [], ◌∷◌, ◌++◌, length, take, drop, set, sym, refl, ap, ◌∙◌, ap₂, append-nil, suc-add, zero-add, add-one, arith, length-append, length-drop, take-append-drop, drop_of_length-le, length-take-le}
use native.Mathlib.Decide.{dec_lt}
use borrow.Author.Rules.{part_to_end}
use borrow.Rule.Slice.PartMut.{mid_of, put_mid, same_len_mid}
use Rattle.basics.specs.Limits.{deepest, cube_kids}
use Rattle.basics.specs.Puts.{puts_from}
use Rattle.basics.proofs.Puts.{puts_append}
use Rattle.nodes.proofs.Sums.{cases}
use Rattle.arena.specs.Tables.{tables, state_of as arena_of}
use Rattle.arena.specs.Calls.{Fair}
use Rattle.listing.specs.Listing.{State, Progress, Records, state_of, widest, record_in, lined_of, state_at, line_at, lines_at, taken_of, Told, told_of}
use Rattle.listing.specs.Models.{one_of, kept_at}
use Rattle.listing.specs.declared.Run.{Run}
use Rattle.listing.specs.declared.Lined.{Lined}

-- ---- a record's bytes

take_min : (w n : ℕ) (l : List ℕ) → n ≡ min w (length l) → take n l ≡ take w l
take_min w n l e = cases (dec_lt w (length l))
    (λ h. let z : n ≡ w = omega arith in ap (λ (j : ℕ). take j l) z)
    (λ h. take_all n l (omega arith) ∙ sym (take_all w l (omega arith)))

drop_min : (m from sat : ℕ) (b : List ℕ) → length b < 2 ^ 64 → sat ≡ min m 18446744073709551615 → from ≡ min sat (length b) → drop from b ≡ drop m b
drop_min m from sat b short es e = cases (dec_lt m (length b))
    (λ h. let z : from ≡ m = omega arith in ap (λ (j : ℕ). drop j b) z)
    (λ h. drop_of_length-le b {i = from} (omega arith) ∙ sym (drop_of_length-le b {i = m} (omega arith)))

pub record_is : (w i from sat n : ℕ) (b : List ℕ) → length b < 2 ^ 64 → sat ≡ min (w * i) 18446744073709551615 → from ≡ min sat (length b)
    → n ≡ min w (length (take (length b - from) (drop from b))) → take n (take (length b - from) (drop from b)) ≡ record_in w b i
unfolding record_in
record_is w i from sat n b short es ef en =
    let d = part_to_end b from ∙ drop_min (w * i) from sat b short es ef in
    take_min w n (take (length b - from) (drop from b)) en ∙ ap (take w) d

pub record_part : (w i from sat n : ℕ) (b : List ℕ) → length b < 2 ^ 64 → sat ≡ min (w * i) 18446744073709551615 → from ≡ min sat (length b)
    → n ≡ min w (length (take (length b - from) (drop from b))) → take (from + n - from) (drop from b) ≡ record_in w b i
record_part w i from sat n b short es ef en =
    let e : from + n - from ≡ n = omega arith in
    rw (e, sym (part_to_end b from)) (record_is w i from sat n b short es ef en)

-- ---- a line written into the rest of the bytes

set_after : (a b : List ℕ) (j v : ℕ) → set (a ++ b) (length a + j) v ≡ a ++ set b j v
set_after [] b j v = ap (λ (k : ℕ). set b k v) (zero-add j)
set_after (x ∷ a) b j v = ap (λ (k : ℕ). set (x ∷ (a ++ b)) k v) (suc-add (length a) j) ∙ ap (λ (l : List ℕ). x ∷ l) (set_after a b j v)

puts_after : (s a b : List ℕ) (j : ℕ) → puts_from (a ++ b) (length a + j) s ≡ a ++ puts_from b j s
unfolding puts_from
puts_after [] a b j = refl
puts_after (v ∷ s) a b j =
    let e : suc (length a + j) ≡ length a + suc j = omega arith in
    rw (set_after a b j v, e) (puts_after s a (set b j v) (suc j))

-- the rest of the bytes from `len` on, lent and given back with s at its start
puts_rest : (o part s : List ℕ) (len : ℕ) → len ≤ length o → part ≡ puts_from (mid_of len (length o - len) o) 0 s → put_mid len (length o - len) o part ≡ puts_from o len s
puts_rest o part s len h e =
    let z : length (take len o) + 0 ≡ len = omega (arith, length-take-le len o h) in
    ap₂ (λ (p q : List ℕ). take len o ++ (p ++ q)) (e ∙ ap (λ (l : List ℕ). puts_from l 0 s) (part_to_end o len)) (drop_of_length-le (drop len o) {i = length o - len} (omega (arith, length-drop len o)))
    ∙ ap (λ (l : List ℕ). take len o ++ l) (append-nil (puts_from (drop len o) 0 s))
    ∙ sym (puts_after s (take len o) (drop len o) 0)
    ∙ ap₂ (λ (l : List ℕ) (i : ℕ). puts_from l i s) (take-append-drop len o) z

-- ---- one record more

module _ (k : Records) (s : State) (b o₀ : List ℕ) (i : ℕ) where
  line_is : (o : List ℕ) → one_of k (state_at k s b i) (record_in k.width b i) o ≡ record { state = state_at k s b (suc i); len = length (line_at k s b i); out = puts_from o 0 (line_at k s b i) }
  unfolding one_of lined_of state_at line_at
  line_is o = refl

  kept_more : (y : State) (n : ℕ) (o part : List ℕ)
      → ◌≡◌ {A = Progress} (record { state = y; len = n; out = part }) (one_of k (state_at k s b i) (record_in k.width b i) (mid_of (length (lines_at k s b i)) (length o - length (lines_at k s b i)) o))
      → length (lines_at k s b i) ≤ length o → o ≡ puts_from o₀ 0 (lines_at k s b i)
      → ◌≡◌ {A = Progress} (record { state = y; len = length (lines_at k s b i) + n; out = put_mid (length (lines_at k s b i)) (length o - length (lines_at k s b i)) o part }) (kept_at k s b o₀ (suc i))
  unfolding kept_at lines_at
  kept_more y n o part e h p =
      let w = e ∙ line_is (mid_of (length (lines_at k s b i)) (length o - length (lines_at k s b i)) o) in
      let z : length (lines_at k s b i) ≡ 0 + length (lines_at k s b i) = omega arith in
      let put : put_mid (length (lines_at k s b i)) (length o - length (lines_at k s b i)) o part ≡ puts_from o₀ 0 (lines_at k s b i ++ line_at k s b i) =
      puts_rest o part (line_at k s b i) (length (lines_at k s b i)) h (ap (λ (x : Progress). x.out) w)
      ∙ ap₂ (λ (l : List ℕ) (j : ℕ). puts_from l j (line_at k s b i)) p z
      ∙ sym (puts_append (lines_at k s b i) (line_at k s b i) o₀ 0) in
      let len : length (lines_at k s b i) + n ≡ length (lines_at k s b i ++ line_at k s b i) = omega (arith, ap (λ (x : Progress). x.len) w, length-append (lines_at k s b i) (line_at k s b i)) in
      rw (ap (λ (x : Progress). x.state) w, len, put)

-- ---- how many

pub taken_is : (n room m : ℕ) → m ≡ min n (room / widest) → m ≡ taken_of n room
unfolding taken_of
taken_is n room m e = e

taken_room : (n room : ℕ) → widest * taken_of n room ≤ room
unfolding taken_of
taken_room n room = omega arith

-- ---- the loop over a block

-- The state of a loop over the n records of the bytes b, as far as o₀ has room: i of them are entered and their lines written.
pub record Loop (k : Records) (n : ℕ) (run : Run) (k₀ f₀ e₀ b o₀ : List ℕ) (most : ℕ) (now : Run) (k₁ f₁ e₁ o : List ℕ) (i len : ℕ) : Type 0 where
  pub within : i ≤ most
  pub short : len ≤ widest * i
  pub many : most ≡ taken_of n (length o₀)
  pub kids : length k₁ ≡ length k₀
  pub facts : length f₁ ≡ length f₀
  pub find : length e₁ ≡ length e₀
  pub out : length o ≡ length o₀
  pub kept : Fair cube_kids deepest (tables (arena_of run.arena) k₀ f₀ e₀)
      → Fair cube_kids deepest (tables (arena_of now.arena) k₁ f₁ e₁) × (◌≡◌ {A = Progress} (record { state = state_of now k₁ f₁ e₁; len = len; out = o }) (kept_at k (state_of run k₀ f₀ e₀) b o₀ i))

kept_none : (k : Records) (s : State) (b o : List ℕ) → ◌≡◌ {A = Progress} (record { state = s; len = 0; out = o }) (kept_at k s b o 0)
unfolding kept_at state_at lines_at puts_from
kept_none k s b o = refl

pub loop_begun : (k : Records) (n : ℕ) (run : Run) (k₀ f₀ e₀ b o₀ : List ℕ) (most : ℕ) → most ≡ taken_of n (length o₀)
    → Loop k n run k₀ f₀ e₀ b o₀ most run k₀ f₀ e₀ o₀ 0 0
loop_begun k n run k₀ f₀ e₀ b o₀ most e = record {
  within = omega arith;
  short = omega arith;
  many = e;
  kids = refl;
  facts = refl;
  find = refl;
  out = refl;
  kept = λ fair. (fair, kept_none k (state_of run k₀ f₀ e₀) b o₀);
}

module _ {k : Records} {n : ℕ} {run : Run} {k₀ f₀ e₀ b o₀ : List ℕ} {most : ℕ} {now : Run} {k₁ f₁ e₁ o : List ℕ} {i len : ℕ}
    (at : Loop k n run k₀ f₀ e₀ b o₀ most now k₁ f₁ e₁ o i len) where
  -- there is room for the line of a record that is still to be taken
  pub next_room : i < most → len + widest ≤ length o
  next_room h = omega (arith, taken_room n (length o₀), at.many, at.short, at.out)

  pub again : i < most → (rec : List ℕ) → rec ≡ record_in k.width b i → (r : Lined) (k₂ f₂ e₂ part : List ℕ)
      → length k₂ ≡ length k₁ → length f₂ ≡ length f₁ → length e₂ ≡ length e₁ → length part ≡ length (mid_of len (length o - len) o) → r.len ≤ widest
      → (Fair cube_kids deepest (tables (arena_of now.arena) k₁ f₁ e₁)
      → Fair cube_kids deepest (tables (arena_of r.run.arena) k₂ f₂ e₂)
      × (◌≡◌ {A = Progress} (record { state = state_of r.run k₂ f₂ e₂; len = r.len; out = part }) (one_of k (state_of now k₁ f₁ e₁) rec (mid_of len (length o - len) o))))
      → Loop k n run k₀ f₀ e₀ b o₀ most r.run k₂ f₂ e₂ (put_mid len (length o - len) o part) (i + 1) (len + r.len)
  unfolding kept_at
  again h rec er r k₂ f₂ e₂ part lk lf le lo few one =
      let s = state_of run k₀ f₀ e₀ in
      let room = next_room h in
      record {
        within = omega arith;
        short = omega (arith, at.short);
        many = at.many;
        kids = lk ∙ at.kids;
        facts = lf ∙ at.facts;
        find = le ∙ at.find;
        out = same_len_mid len (length o - len) o part lo ∙ at.out;
        kept = λ fair.
            let x = at.kept fair in
            let y = one x.0 in
            let state : state_of now k₁ f₁ e₁ ≡ state_at k s b i = ap (λ (z : Progress). z.state) x.1 in
            let m : len ≡ length (lines_at k s b i) = ap (λ (z : Progress). z.len) x.1 in
            let q = y.1 ∙ ap₂ (λ (t : State) (u : List ℕ). one_of k t u (mid_of len (length o - len) o)) state er in (
              y.0,
              rw m (kept_more k s b o₀ i (state_of r.run k₂ f₂ e₂) r.len o part (rw m at q) (omega arith) (ap (λ (z : Progress). z.out) x.1))
                  ∙ ap (kept_at k s b o₀) (sym (add-one i)),
            );
      }

  -- the same of the rest of the bytes from a number on that is `len`
  pub again_from : (from : ℕ) → i < most → (rec : List ℕ) → rec ≡ record_in k.width b i → (r : Lined) (k₂ f₂ e₂ part : List ℕ)
      → length k₂ ≡ length k₁ → length f₂ ≡ length f₁ → length e₂ ≡ length e₁ → length part ≡ length (mid_of from (length o - from) o) → r.len ≤ widest
      → (Fair cube_kids deepest (tables (arena_of now.arena) k₁ f₁ e₁)
      → Fair cube_kids deepest (tables (arena_of r.run.arena) k₂ f₂ e₂)
      × (◌≡◌ {A = Progress} (record { state = state_of r.run k₂ f₂ e₂; len = r.len; out = part }) (one_of k (state_of now k₁ f₁ e₁) rec (mid_of from (length o - from) o))))
      → from ≡ len → Loop k n run k₀ f₀ e₀ b o₀ most r.run k₂ f₂ e₂ (put_mid from (length o - from) o part) (i + 1) (len + r.len)
  again_from from h rec er r k₂ f₂ e₂ part lk lf le lo few one q = rw q (again h rec er r k₂ f₂ e₂ part lk lf le (rw q at lo) few (rw q at one))

  pub loop_told : most ≤ i
      → (most ≡ taken_of n (length o₀))
      × (Fair cube_kids deepest (tables (arena_of run.arena) k₀ f₀ e₀) → ◌≡◌ {A = Told} (record { state = state_of now k₁ f₁ e₁; records = most; len = len; out = o }) (told_of k (state_of run k₀ f₀ e₀) b o₀ most))
  unfolding told_of kept_at
  loop_told h =
      let e : most ≡ i = omega (arith, at.within) in (
        at.many,
        (λ fair. rw e (ap (λ (x : Progress). record { state = x.state; records = i; len = x.len; out = x.out }) (at.kept fair).1)),
      )
