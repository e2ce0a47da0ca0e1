use mathlib.Core.Path.{◌≡◌, ap, ◌∙◌}
use mathlib.Core.Bool.{Bool, not}
use mathlib.Core.List.{List}
use Prim.Native.Nat.{ℕ, ◌<◌}
use lib.Dec.{eqb}
use lib.ListN.{set}
use Rattle.basics.specs.Pick.{pick}
use Rattle.ids.specs.Ids.{is_end, is_leaf, types_of, mask_of}
use Rattle.nodes.specs.Words.{fact_of, kid_of}
use Rattle.nodes.specs.Values.{value_at, height_at}
use Rattle.find_hash.specs.Hash.{rekids_hash}
use Rattle.tree.specs.Anew.{part}
use Rattle.arena.specs.Calls.{Out, made_of}
use Rattle.arena.specs.Tables.{state_in, tables}
use Rattle.arena.specs.declared.Made.{Made}
use Rattle.edit_way.specs.Models.{eight_parts, hash_over}
use Rattle.edit_way.proofs.Words.{part_kids, parts_kids, hash_facts}
use Rattle.edit_make.specs.Models.{sum_over, height_over, resum, with_bit, types_over, mask_over, placed_over, branch_anew_by, up_by}
use Rattle.edit_plan.proofs.Plans.{value_facts}
use Rattle.edit_make.proofs.Steps.{height_facts, tall_facts, sum_facts}
use Rattle.edit_make.proofs.branch_over.Goals as goal

done : (n : ℕ) (low : Made) (k f e : List ℕ) (a c h q : ℕ) (ks m all : List ℕ) (was y w s x g up v z kt to km mo ty ma : ℕ) (lf em : Bool) (r : Out) → c < 8
    → ks ≡ eight_parts (kid_of k) a → was ≡ part (kid_of k) a c → y ≡ hash_over (fact_of f) a → w ≡ rekids_hash y c was low.id.0 → s ≡ sum_over (fact_of f) a → x ≡ value_at (fact_of f) was
    → g ≡ height_at (fact_of f) a → m ≡ placed_over f ks a c → all ≡ set ks c low.id.0 → up ≡ height_over (fact_of m) all low.id.0 g → v ≡ value_at (fact_of m) low.id.0
    → z ≡ resum s x v → kt ≡ types_of a → to ≡ pick (eqb a 0) 0 (pick (is_end a) 255 kt) → lf ≡ is_leaf low.id.0 → ty ≡ with_bit to c lf → km ≡ mask_of a
    → mo ≡ pick (eqb a 0) 0 (pick (is_end a) 255 km) → em ≡ eqb low.id.0 0 → ma ≡ with_bit mo c (not em)
    → r ≡ branch_anew_by (tables (state_in n low.slots) k m e) all ty ma up z w h q → r ≡ up_by (made_of n low k f e) a c h q
unfolding up_by types_over mask_over
done n low k f e a c h q ks m all was y w s x g up v z kt to km mo ty ma lf em r lc eks ewas ey ew es ex eg ef eall eup ev ez ekt eto elf ety ekm emo eem ema er =
    let i = low.id.0 in
    er ∙ rw (eup ∙ height_facts k m all i g, ez ∙ ap (resum s x) (ev ∙ value_facts k m i), ew, ey ∙ hash_facts k f a, es ∙ sum_facts k f a, ex ∙ value_facts k f was, eg ∙ tall_facts k f a, ety, eto, ekt, elf, ema, emo, ekm, eem, eall, ef, ewas ∙ part_kids k f a c lc, eks ∙ parts_kids k f a)

pub returns : goal.returns
returns c =
    done _ _ _ _ _ _ _ _ _ _ _ _ _ _ _ _ _ _ _ _ _ _ _ _ _ _ _ _ _ _ c.requires c.parts-ks.ensures c.part_of-was.ensures c.hash_over.ensures c.rehash-hash.ensures c.sum_over-sum.ensures
    c.value_at-x.ensures c.height_at-g.ensures c.place_others.ensures c.with_part-all.ensures c.height_over-up.ensures c.value_at.ensures
    c.resum-total.ensures c.types.ensures c.byte_over.ensures c.is_leaf.ensures c.with_bit-types.ensures c.mask.ensures c.byte_over-2.ensures c.is_empty.ensures
    c.with_bit-mask.ensures c.branch_anew.ensures
