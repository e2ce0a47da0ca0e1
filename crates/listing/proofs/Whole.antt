-- The whole run: from a fresh arena every state is well formed, so that the calls' contracts determine all of it, and however the input comes in blocks
-- of whole records, the lines are those of the whole input.
use Rattle.std.proofs.Common.{◌≡◌, ℕ, zero, suc, ◌+◌, ◌*◌, ◌^◌, ◌<◌, ◌≤◌, true, false, List, ◌++◌, length, take, drop, sym, refl, ap, ◌∙◌, subst, ap₂, append_assoc, append-nil, mul-le-mul_left, mul-suc, mul-add, arith, length-append, length-drop, length-take, get_or-drop, get_or-take}
use native.Mathlib.Decide.{dec_lt}
use lib.ListN.{get_or-eq_default}
use lib.Seq.{take-append-le, drop-append-le, drop-append-add}
use Rattle.basics.specs.Limits.{deepest, cube_kids}
use Rattle.basics.specs.Puts.{puts_from}
use Rattle.basics.proofs.Puts.{puts_there}
use Rattle.nodes.proofs.Sums.{cases}
use Rattle.arena.specs.Tables.{live_in, WellFormed}
use Rattle.arena.specs.Calls.{Out, fit_of, fits, fresh_of}
use Rattle.arena.proofs.Holding.{fresh_well}
use Rattle.basics.specs.Bytes.{Bytes}
use Rattle.listing.specs.Listing.{State, Records, widest, one_more, step_to, record_in, answer_to, state_at, line_at, lines_at, start_of, ending_of, listing_at, Entered, begun, block, Stands}
use Rattle.listing.specs.Holding.{Enters}
use Rattle.listing.proofs.Steps.{step_refused, step_well, step_count}

-- ---- the bytes of a record

pub record_bytes_lem : (w : ℕ) (b : List ℕ) → Bytes b → (n : ℕ) → Bytes (record_in w b n)
unfolding record_in
record_bytes_lem w b h n i = cases (dec_lt i w)
    (λ l. rw (get_or-take w (drop (w * n) b) i 0 l, get_or-drop (w * n) b i 0) (h (w * n + i)))
    (λ l.
    let short : length (take w (drop (w * n) b)) ≤ i = omega (arith, length-take w (drop (w * n) b)) in
    rw (get_or-eq_default (take w (drop (w * n) b)) 0 short) (omega arith))

-- ---- well formed after each record

module _ {k : Records} (enters : Enters k) where
  -- well-formed tables are well formed after any number of records
  pub records_well : (s : State) (b : List ℕ) → Bytes b → WellFormed cube_kids deepest s.tables → (n : ℕ) → WellFormed cube_kids deepest (state_at k s b n).tables
  unfolding state_at answer_to
  records_well s b h w zero = w
  records_well s b h w (suc n) =
      let t = state_at k s b n in
      let r = record_in k.width b n in
      step_well t.root t.count (k.enter t.tables t.root r) (enters.grants t.tables t.root r (record_bytes_lem k.width b h n) (records_well s b h w n)).well

  -- over tables that do not fit the start answers 1, and so does every record
  unfit_stays : (s : State) → fits s.tables ≡ false → (b : List ℕ) (n : ℕ) → (state_at k s b n).tables ≡ s.tables
  unfolding state_at answer_to
  unfit_stays s f b zero = refl
  unfit_stays s f b (suc n) =
      let t = state_at k s b n in
      let e = unfit_stays s f b n in
      let r = record_in k.width b n in
      let o = enters.unfit t.tables t.root r (ap fits e ∙ f) in
      ap (λ (u : State). u.tables) (step_refused t.root t.count (k.enter t.tables t.root r) (λ z. omega (arith, ap (λ (x : Out). x.no) o))) ∙ ap (λ (x : Out). x.after) o ∙ e

  pub start_unfit : (c : ℕ) (kids f e : List ℕ) → fit_of c (length kids) (length f) (length e) ≡ false
      → ((start_of c kids f e).no ≡ 1) × ((b : List ℕ) (n : ℕ) → (answer_to k (state_at k (start_of c kids f e).state b n) (record_in k.width b n)).no ≡ 1)
  unfolding start_of answer_to fresh_of
  start_unfit c kids f e z = (
    rw z,
    (λ b n.
        let s = (start_of c kids f e).state in
        let t = state_at k s b n in
        let u : fits s.tables ≡ false = rw z z in
        ap (λ (x : Out). x.no) (enters.unfit t.tables t.root (record_in k.width b n) (ap fits (unfit_stays s u b n) ∙ u))),
  )

-- the tables of a fresh arena are well formed where they fit
pub start_well : (c : ℕ) (k f e : List ℕ) → fit_of c (length k) (length f) (length e) ≡ true → WellFormed cube_kids deepest (start_of c k f e).state.tables
unfolding start_of
start_well c k f e z = fresh_well cube_kids deepest c k f e z

count_plain : (n : ℕ) → n + 1 < 2 ^ 64 → one_more n ≡ n + 1
unfolding one_more
count_plain n h = omega arith

-- ---- an input in two parts

-- record i ends within the first part
whole_there : (w i m n : ℕ) → i < m → n ≡ w * m → w * i + w ≤ n
whole_there w i m n h e = let b : w * suc i ≤ w * m = mul-le-mul_left w h in omega (arith, mul-suc w i)

module _ (k : Records) where
  -- the number of a record is the true one, below 2^64
  pub records_counted : (s : State) (b : List ℕ) (n : ℕ) → s.count + n < 2 ^ 64 → (state_at k s b n).count ≡ s.count + n
  unfolding state_at
  records_counted s b zero h = omega arith
  records_counted s b (suc n) h =
      let t = state_at k s b n in
      let e : t.count ≡ s.count + n = records_counted s b n (omega arith) in
      step_count t.root t.count (answer_to k t (record_in k.width b n)) ∙ count_plain t.count (omega arith) ∙ omega arith

  -- a line, from the states before and after the record and its bytes
  line_same : {t t₁ u u₁ : State} {r r₁ : List ℕ} → t ≡ t₁ → u ≡ u₁ → r ≡ r₁
      → k.line u.count (answer_to k t r).no u.root ≡ k.line u₁.count (answer_to k t₁ r₁).no u₁.root
  line_same {t₁} {u} {r₁} et eu er =
      ap₂ (λ (x : State) (y : List ℕ). k.line u.count (answer_to k x y).no u.root) et er
      ∙ ap (λ (x : State). k.line x.count (answer_to k t₁ r₁).no x.root) eu

  module _ (a b : List ℕ) (m : ℕ) (whole : length a ≡ k.width * m) where
    record_before : (i : ℕ) → i < m → record_in k.width (a ++ b) i ≡ record_in k.width a i
    unfolding record_in
    record_before i h =
        let w = k.width in
        let t = whole_there w i m (length a) h whole in
        let d = length-drop (w * i) a in
        rw (drop-append-le (w * i) a b (omega arith), take-append-le w (drop (w * i) a) b (omega arith))

    record_after : (i : ℕ) → record_in k.width (a ++ b) (m + i) ≡ record_in k.width b i
    unfolding record_in
    record_after i = let e : k.width * (m + i) ≡ length a + k.width * i = omega (arith, mul-add k.width m i) in rw (e, drop-append-add a b (k.width * i))

    state_before : (s : State) (i : ℕ) → i ≤ m → state_at k s (a ++ b) i ≡ state_at k s a i
    unfolding state_at
    state_before s zero h = refl
    state_before s (suc i) h = rw (state_before s i (omega arith), record_before i (omega arith))

    state_after : (s : State) (n : ℕ) → state_at k s (a ++ b) (m + n) ≡ state_at k (state_at k s a m) b n
    unfolding state_at
    state_after s zero = let e : m + 0 ≡ m = omega arith in ap (state_at k s (a ++ b)) e ∙ state_before s m (omega arith)
    state_after s (suc n) =
        let e : m + suc n ≡ suc (m + n) = omega arith in
        ap (state_at k s (a ++ b)) e
        ∙ ap₂ (λ (t : State) (r : List ℕ). step_to t.root t.count (answer_to k t r)) (state_after s n) (record_after n)

    line_before : (s : State) (i : ℕ) → i < m → line_at k s (a ++ b) i ≡ line_at k s a i
    unfolding line_at
    line_before s i h = line_same (state_before s i (omega arith)) (state_before s (suc i) (omega arith)) (record_before i h)

    lines_before : (s : State) (i : ℕ) → i ≤ m → lines_at k s (a ++ b) i ≡ lines_at k s a i
    unfolding lines_at
    lines_before s zero h = refl
    lines_before s (suc i) h = rw (lines_before s i (omega arith), line_before s i (omega arith))

    line_after : (s : State) (n : ℕ) → line_at k s (a ++ b) (m + n) ≡ line_at k (state_at k s a m) b n
    unfolding line_at
    line_after s n =
        let e : suc (m + n) ≡ m + suc n = omega arith in
        line_same (state_after s n) (ap (state_at k s (a ++ b)) e ∙ state_after s (suc n)) (record_after n)

    lines_after : (s : State) (n : ℕ) → lines_at k s (a ++ b) (m + n) ≡ lines_at k s a m ++ lines_at k (state_at k s a m) b n
    unfolding lines_at
    lines_after s zero = let e : m + 0 ≡ m = omega arith in ap (lines_at k s (a ++ b)) e ∙ lines_before s m (omega arith) ∙ sym (append-nil (lines_at k s a m))
    lines_after s (suc n) =
        let e : m + suc n ≡ suc (m + n) = omega arith in
        ap (lines_at k s (a ++ b)) e
        ∙ ap₂ (λ (l r : List ℕ). l ++ r) (lines_after s n) (line_after s n)
        ∙ append_assoc (lines_at k s a m) (lines_at k (state_at k s a m) b n) (line_at k (state_at k s a m) b n)

-- ---- any number of blocks

pub entered_stands : {k : Records} {s t : State} {b lines : List ℕ} → Entered k s b t lines → Stands k s b t lines
unfolding state_at lines_at
entered_stands {k} begun = record { many = 0; whole = omega arith; state = refl; listed = refl }
entered_stands {k} {s} (block {b} {t} {lines} r x n e) =
    let h = entered_stands r in
    let m = h.many in
    record {
      many = m + n;
      whole = omega (arith, length-append b x, mul-add k.width m n, h.whole);
      state = ap (λ (u : State). state_at k u x n) h.state ∙ sym (state_after k b x m h.whole s n);
      listed = ap₂ (λ (l : List ℕ) (u : State). l ++ lines_at k u x n) h.listed h.state ∙ sym (lines_after k b x m h.whole s n);
    }

-- n records of the next block, whole or not: with the blocks so far they are the first records of all the bytes
pub entered_state : {k : Records} {s t : State} {b lines : List ℕ} (r : Entered k s b t lines) (x : List ℕ) (n : ℕ)
    → state_at k t x n ≡ state_at k s (b ++ x) ((entered_stands r).many + n)
entered_state {k} {s} {b} r x n =
    let h = entered_stands r in
    ap (λ (u : State). state_at k u x n) h.state ∙ sym (state_after k b x h.many h.whole s n)

pub entered_lines : {k : Records} {s t : State} {b lines : List ℕ} (r : Entered k s b t lines) (x : List ℕ) (n : ℕ)
    → lines ++ lines_at k t x n ≡ lines_at k s (b ++ x) ((entered_stands r).many + n)
entered_lines {k} {s} {b} r x n =
    let h = entered_stands r in
    ap₂ (λ (l : List ℕ) (u : State). l ++ lines_at k u x n) h.listed h.state ∙ sym (lines_after k b x h.many h.whole s n)

-- the last block and the end: together with the lines so far they are the listing of all the bytes
pub entered_listing : {k : Records} {s t : State} {b lines : List ℕ} (r : Entered k s b t lines) (x : List ℕ) (n cut : ℕ)
    → lines ++ listing_at k t x n cut ≡ listing_at k s (b ++ x) ((entered_stands r).many + n) cut
unfolding listing_at
entered_listing {k} {t} {lines} r x n cut =
    let end : State → List ℕ = λ u. ending_of cut (live_in u.tables.arena) in
    sym (append_assoc lines (lines_at k t x n) (end (state_at k t x n)))
    ∙ ap₂ (λ (l : List ℕ) (u : State). l ++ end u) (entered_lines r x n) (entered_state r x n)

-- and well-formed tables are well formed at each point of it
pub entered_well : {k : Records} → Enters k → {s t : State} {b lines : List ℕ} → Entered k s b t lines → Bytes b → WellFormed cube_kids deepest s.tables → WellFormed cube_kids deepest t.tables
entered_well enters {s} {b} r h w =
    let z = entered_stands r in
    subst (λ (u : State). WellFormed cube_kids deepest u.tables) (sym z.state) (records_well enters s b h w z.many)

-- ---- there is room: the bytes that a call writes are the lines

module _ {k : Records} (enters : Enters k) where
  lines_short : (s : State) (b : List ℕ) (n : ℕ) → length (lines_at k s b n) ≤ widest * n
  unfolding lines_at line_at
  lines_short s b zero = omega arith
  lines_short s b (suc n) =
      let t = state_at k s b n in
      let u = state_at k s b (suc n) in
      let no = (answer_to k t (record_in k.width b n)).no in
      omega (arith, length-append (lines_at k s b n) (k.line u.count no u.root), lines_short s b n, enters.short u.count no u.root)

  pub lines_there : (s : State) (b o : List ℕ) (n : ℕ) → widest * n ≤ length o → take (length (lines_at k s b n)) (puts_from o 0 (lines_at k s b n)) ≡ lines_at k s b n
  lines_there s b o n h = puts_there o (lines_at k s b n) (omega (arith, lines_short s b n))
