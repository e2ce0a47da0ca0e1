-- Every public call's contract determines its answer and the tables afterwards: two that meet it on the same lent tables are equal.
use mathlib.Core.Path.{◌≡◌, refl, sym, ap, ap₂, ◌∙◌}
use mathlib.Core.Logic.{◌↔◌}
use mathlib.Core.Bool.{Bool, true, false}
use mathlib.Core.List.{List}
use Prim.Native.Nat.{ℕ, ◌+◌, ◌*◌, ◌^◌}
use native.Mathlib.Omega.{arith}
use Rattle.std.specs.Prelude.{Result, Ok, Err}
use Rattle.basics.specs.Limits.{deepest, cube_kids}
use Rattle.basics.specs.Refusals.{no_of}
use Rattle.basics.specs.declared.Refusal.{Refusal}
use Rattle.basics.proofs.Refusals.{number_one, number_some}
use Rattle.ids.specs.declared.BlockId.{BlockId}
use Rattle.paths.specs.declared.IVec3.{IVec3}
use Rattle.paths.specs.Paths.{Decoded, decoded, ChildIndex, child_index}
use Rattle.arena.specs.declared.Answer.{Answer}
use Rattle.arena.specs.declared.Counts.{Counts}
use Rattle.arena.specs.declared.Made.{Made}
use Rattle.arena.specs.Calls.{Out, Numbers, made_of, answered_of, counted_as}
use Rattle.arena.specs.Tables.{State, next_in, freed_in, state_in, cap}
use Rattle.read_cell.specs.declared.Looked.{Looked}
use Rattle.read_cell.specs.Calls.{Expanded, expanded, looked_as}
use Rattle.compare.specs.declared.Compared.{Compared}
use Rattle.compare_list.specs.declared.Found.{Found}
use Rattle.compare.specs.Compare.{Outcome, answered, compared}
use Rattle.unique.specs.Asked.{Plain, PlainSaid, PlainMeets, Asked, from_raw, raw, packing_no, new_leaf, new_branch, index, generation, types, mask, has_child, is_leaf, is_branch, is_invalid, is_valid, is_empty, text, path, position, child, parse, fresh, hold, counts, leaf, branch, release, look, expand, edit, enter, compare, check, Left, Said, Meets, Speaks}

-- what a contract equates can be undone: so two that it equates with one are one
pub one : {A B : Type 0} (f : A → B) (back : B → A) → ((a : A) → back (f a) ≡ a) → {o : B} (a b : A) → f a ≡ o → f b ≡ o → a ≡ b
one f back e a b p q = sym (e a) ∙ ap back (p ∙ sym q) ∙ e b

-- the state's one word out of its two numbers
abbrev pub slots_back : State → ℕ
slots_back a = a.next + 2 ^ 32 * a.freed

pub slots_back_lem : (c w : ℕ) → slots_back (state_in c w) ≡ w
unfolding next_in freed_in
slots_back_lem c w = omega arith

made_one : (c : ℕ) {o : Out} (a b : Left Made) → made_of c a.0 a.1 a.2 a.3 ≡ o → made_of c b.0 b.1 b.2 b.3 ≡ o → a ≡ b
made_one c = one (λ (a : Left Made). made_of c a.0 a.1 a.2 a.3)
    (λ o. (record { no = o.no; id = record { 0 = o.id }; slots = slots_back o.after.arena }, o.after.nodes.kids, o.after.nodes.facts, o.after.find))
    (λ a. ap (λ (w : ℕ). (record { no = a.0.no; id = a.0.id; slots = w }, a.1, a.2, a.3)) (slots_back_lem c a.0.slots))

answered_one : (c : ℕ) {o : Out} (a b : Left Answer) → answered_of c a.0 a.1 a.2 a.3 ≡ o → answered_of c b.0 b.1 b.2 b.3 ≡ o → a ≡ b
answered_one c = one (λ (a : Left Answer). answered_of c a.0 a.1 a.2 a.3)
    (λ o. (record { no = o.no; slots = slots_back o.after.arena }, o.after.nodes.kids, o.after.nodes.facts, o.after.find))
    (λ a. ap (λ (w : ℕ). (record { no = a.0.no; slots = w }, a.1, a.2, a.3)) (slots_back_lem c a.0.slots))

held_one : (c : ℕ) (k e : List ℕ) {o : Out} (a b : Answer × List ℕ) → answered_of c a.0 k a.1 e ≡ o → answered_of c b.0 k b.1 e ≡ o → a ≡ b
held_one c k e = one (λ (a : Answer × List ℕ). answered_of c a.0 k a.1 e) (λ o. (record { no = o.no; slots = slots_back o.after.arena }, o.after.nodes.facts))
    (λ a. ap (λ (w : ℕ). (record { no = a.0.no; slots = w }, a.1)) (slots_back_lem c a.0.slots))

id_one : {o : ℕ} (a b : BlockId) → a.0 ≡ o → b.0 ≡ o → a ≡ b
id_one = one (λ (a : BlockId). a.0) (λ o. record { 0 = o }) (λ a. refl)

-- Accepted or refused, an answer is one: no refusal has the number 0, and no two have one.
result_one : {A O : Type 0} (of : Result A Refusal → O) (number_in : O → ℕ) (value : O → A) → ((r : Result A Refusal) → number_in (of r) ≡ no_of r) → ((x : A) → value (of (Ok x)) ≡ x)
    → {o : O} (a b : Result A Refusal) → of a ≡ o → of b ≡ o → a ≡ b
result_one of number_in value n v (Ok x) (Ok y) p q = ap Ok (one (λ z. of (Ok z)) value v x y p q)
result_one of number_in value n v (Ok x) (Err s) p q = absurd (omega (arith, sym (n (Ok x)) ∙ ap number_in (p ∙ sym q) ∙ n (Err s), number_some s))
result_one of number_in value n v (Err r) (Ok y) p q = absurd (omega (arith, sym (n (Err r)) ∙ ap number_in (p ∙ sym q) ∙ n (Ok y), number_some r))
result_one of number_in value n v (Err r) (Err s) p q = ap Err (number_one r s (sym (n (Err r)) ∙ ap number_in (p ∙ sym q) ∙ n (Err s)))

decoded_no : (r : Result IVec3 Refusal) → (decoded r).no ≡ no_of r
decoded_no (Ok x) = refl
decoded_no (Err r) = refl

decoded_one : {o : Decoded} (a b : Result IVec3 Refusal) → decoded a ≡ o → decoded b ≡ o → a ≡ b
decoded_one = result_one decoded (λ o. o.no) (λ o. o.position) decoded_no (λ x. refl)

child_no : (r : Result ℕ Refusal) → (child_index r).no ≡ no_of r
child_no (Ok x) = refl
child_no (Err r) = refl

child_one : {o : ChildIndex} (a b : Result ℕ Refusal) → child_index a ≡ o → child_index b ≡ o → a ≡ b
child_one = result_one child_index (λ o. o.no) (λ o. o.index) child_no (λ x. refl)

counted_no : (r : Result Counts Refusal) → (counted_as r).no ≡ no_of r
counted_no (Ok x) = refl
counted_no (Err r) = refl

counted_one : {o : Numbers} (a b : Result Counts Refusal) → counted_as a ≡ o → counted_as b ≡ o → a ≡ b
counted_one = result_one counted_as (λ o. o.no) (λ o. record { holds = o.holds; places = o.places }) counted_no (λ x. refl)

looked_no : (r : Result ℕ Refusal) → (looked_as r).no ≡ no_of r
looked_no (Ok x) = refl
looked_no (Err r) = refl

looked_one : {o : Looked} (a b : Result ℕ Refusal) → looked_as a ≡ o → looked_as b ≡ o → a ≡ b
looked_one = result_one looked_as (λ o. o.no) (λ o. o.value) looked_no (λ x. refl)

done_one : {o : ℕ} (a b : Result (Unit {0}) Refusal) → no_of a ≡ o → no_of b ≡ o → a ≡ b
done_one = result_one no_of (λ o. o) (λ o. tt) (λ r. refl) (λ x. refl)

expanded_one : {o : Expanded} (a b : Result (Unit {0}) Refusal × List ℕ) → expanded (no_of a.0) a.1 ≡ o → expanded (no_of b.0) b.1 ≡ o → a ≡ b
expanded_one a b p q =
    let e = p ∙ sym q in
    ap₂ (λ (x : Result (Unit {0}) Refusal) (y : List ℕ). (x, y)) (done_one a.0 b.0 (ap (λ (o : Expanded). o.no) e) refl) (ap (λ (o : Expanded). o.cube) e)

answered_no : (r : Result Found Refusal) → (answered r).no ≡ no_of r
answered_no (Ok x) = refl
answered_no (Err r) = refl

found_one : {o : Compared} (a b : Result Found Refusal) → answered a ≡ o → answered b ≡ o → a ≡ b
found_one = result_one answered (λ o. o.no) (λ o. record { cells = o.count; opened = o.opened }) answered_no (λ x. refl)

-- the answer, and the list's parts
compared_one : {o : Outcome} (a b : Result Found Refusal × List ℕ × List ℕ × List ℕ) → compared (answered a.0) a.1 a.2 a.3 ≡ o → compared (answered b.0) b.1 b.2 b.3 ≡ o → a ≡ b
compared_one {o} a b p q =
    let back : Outcome → Compared = λ o. record { no = o.no; count = o.count; opened = o.opened } in
    let parts : Outcome → List ℕ × List ℕ × List ℕ = λ o. (o.codes, o.lefts, o.rights) in
    ap₂ (λ (x : Result Found Refusal) (y : List ℕ × List ℕ × List ℕ). (x, y.0, y.1, y.2)) (found_one {o = back o} a.0 b.0 (ap back p) (ap back q)) (ap parts (p ∙ sym q))

same : {A : Type 0} {o : A} (a b : A) → a ≡ o → b ≡ o → a ≡ b
same a b p q = p ∙ sym q

-- a test that is true exactly if P
test_one : {P : Type 0} (a b : Bool) → (a ≡ true) ↔ P → (b ≡ true) ↔ P → a ≡ b
test_one true true p q = refl
test_one true false p q = sym (q.1 (p.0 refl))
test_one false true p q = p.1 (q.0 refl)
test_one false false p q = refl

pub plain_determined : (q : Plain) (a b : PlainSaid q) → PlainMeets q a → PlainMeets q b → a ≡ b
plain_determined (from_raw x) = id_one
plain_determined (raw c) = same
plain_determined (packing_no g) = same
plain_determined (new_leaf i g) = id_one
plain_determined (new_branch i g y m) = id_one
plain_determined (index c) = same
plain_determined (generation c) = same
plain_determined (types c) = same
plain_determined (mask c) = same
plain_determined (has_child c i) = same
plain_determined (is_leaf c) = same
plain_determined (is_branch c) = same
plain_determined (is_invalid c) = same
plain_determined (is_valid c) = same
plain_determined (is_empty c) = same
plain_determined (text c) = same
plain_determined (path p) = same
plain_determined (position c) = decoded_one
plain_determined (child p k d) = child_one
plain_determined (parse l) = same

pub determined : (q : Asked) → Speaks q → (a b : Said q) → Meets q a → Meets q b → a ≡ b
determined (fresh c k f e) s = answered_one c
determined (hold t c) s = held_one (cap t) t.nodes.kids t.find
determined (counts t c) s = counted_one
determined (leaf t v) s = λ a b p q. made_one (cap t) a b (p cube_kids deepest (omega arith) s) (q cube_kids deepest (omega arith) s)
determined (branch t ks) s = λ a b p q. made_one (cap t) a b (p s) (q s)
determined (release t c) s = λ a b p q. answered_one (cap t) a b (p cube_kids deepest (omega arith) (omega arith) s) (q cube_kids deepest (omega arith) (omega arith) s)
determined (look t c d p) s = looked_one
determined (expand t c d l) s = expanded_one
determined (enter t c d k l) s = λ a b p q. made_one (cap t) a b (p s) (q s)
determined (edit t c d p v) s = λ a b p q. made_one (cap t) a b (p s) (q s)
determined (compare t x y d c l r) s = compared_one
determined (check t) s = λ a b p q. ap₂ (λ (x : Bool) (y : List ℕ). (x, y)) (test_one a.0 b.0 p.0 q.0) (same a.1 b.1 p.1 q.1)
