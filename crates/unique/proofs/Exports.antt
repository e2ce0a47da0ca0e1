-- The contract of each export for C determines its answer, and what it leaves of what it can write.
use mathlib.Core.Path.{◌≡◌, refl, sym, ap₂, ◌∙◌}
use mathlib.Core.List.{List}
use Prim.Native.Nat.{ℕ}
use Rattle.paths.specs.declared.IVec3.{IVec3}
use Rattle.arena.specs.declared.Counted.{Counted}
use Rattle.arena.specs.Calls.{Numbers, counted}
use Rattle.read_cell.specs.Calls.{Expanded, expanded}
use Rattle.compare.specs.declared.Compared.{Compared}
use Rattle.compare.specs.Compare.{Outcome, compared}
use Rattle.unique.specs.Exports.{Export, new_leaf, new_branch, decode, child, text, parse, counts, look, expand, compare, ExportSaid, ExportMeets}
use Rattle.unique.proofs.One.{one}

counted_one : {o : Numbers} (a b : Counted) → counted a ≡ o → counted b ≡ o → a ≡ b
counted_one = one counted (λ o. record { no = o.no; holds = o.holds; places = o.places }) (λ a. refl)

expanded_one : {o : Expanded} (a b : ℕ × List ℕ) → expanded a.0 a.1 ≡ o → expanded b.0 b.1 ≡ o → a ≡ b
expanded_one = one (λ (a : ℕ × List ℕ). expanded a.0 a.1) (λ o. (o.no, o.cube)) (λ a. refl)

compared_one : {o : Outcome} (a b : Compared × List ℕ × List ℕ × List ℕ) → compared a.0 a.1 a.2 a.3 ≡ o → compared b.0 b.1 b.2 b.3 ≡ o → a ≡ b
compared_one = one (λ (a : Compared × List ℕ × List ℕ × List ℕ). compared a.0 a.1 a.2 a.3)
    (λ o. (record { no = o.no; count = o.count; opened = o.opened }, o.codes, o.lefts, o.rights)) (λ a. refl)

pub export_determined : (q : Export) (a b : ExportSaid q) → ExportMeets q a → ExportMeets q b → a ≡ b
export_determined (new_leaf i g) a b p q = ap₂ (λ n x. record { no = n; id = x }) (p.0 ∙ sym q.0) (p.1 ∙ sym q.1)
export_determined (new_branch i g y m) a b p q = ap₂ (λ n x. record { no = n; id = x }) (p.0 ∙ sym q.0) (p.1 ∙ sym q.1)
export_determined (decode c) a b p q = ap₂ (λ (n : ℕ) (v : IVec3). record { no = n; x = v.x; y = v.y; z = v.z }) (p.0 ∙ sym q.0) (p.1 ∙ sym q.1)
export_determined (child x y z k d) a b p q = ap₂ (λ n i. record { no = n; index = i }) (p.0 ∙ sym q.0) (p.1 ∙ sym q.1)
export_determined (text raw) a b p q = ap₂ (λ s n. record { bytes = s; len = n }) (p.0 ∙ sym q.0) (p.1 ∙ sym q.1)
export_determined (parse l) a b p q = p ∙ sym q
export_determined (counts t b) c d p q = counted_one c d p q
export_determined (look t b d v) c e p q = p ∙ sym q
export_determined (expand t b d l) c e p q = expanded_one c e p q
export_determined (compare t x y d c l r) e f p q = compared_one e f p q
