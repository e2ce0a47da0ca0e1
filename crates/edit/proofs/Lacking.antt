-- Refusal 11 comes exactly if more nodes of the result are not yet live than there are free slots, also where the arena has no room for the result.
use mathlib.Core.Path.{◌≡◌, refl, sym, ◌∙◌, subst}
use mathlib.Core.Logic.{◌≢◌}
use mathlib.Core.List.{List}
use Prim.Native.Nat.{ℕ, ◌-◌, ◌^◌, ◌≤◌, ◌<◌}
use native.Mathlib.Decide.{ℕ_discrete}
use native.Mathlib.Omega.{arith}
use Rattle.nodes.specs.Words.{Words}
use Rattle.nodes.specs.Tally.{Live}
use Rattle.nodes.specs.Values.{height_at}
use Rattle.nodes.proofs.Sums.{cases}
use Rattle.tree.specs.Tree.{LiveOr0, WellMade, look, Extends}
use Rattle.tree.specs.Anew.{Anew, Answer, asked, made}
use Rattle.tree.specs.Lacks.{Need, have, lack, Plan}
use Rattle.tree.specs.Room.{Bare}
use Rattle.tree.proofs.Making.{renewed, anew_later, anew_one}
use Rattle.tree.proofs.Plan.{plan_have}
use Rattle.tree.proofs.Room.{tables_bare, there_more, made_more, anew_more, plan_few, room, lacks_newly, newly_one, newly_old}
use Rattle.arena.specs.Tables.{live_in, Tables, cap, W}
use Rattle.read_cell.proofs.Meaning.{wf_made}
use Rattle.edit.specs.Edit.{plan_of, result_of, cell_no}
use Rattle.edit.specs.Promises.{Posed, Imagined, Missing}
use Rattle.edit.proofs.Planning.{plan_is}
use Rattle.edit.proofs.Theorems.{lack_right, result_new, result_old, eleven, eleven_given}
use Rattle.edit.proofs.Upward.{have_lack}

-- what an answer is where the cell has another value, and where it has this one
module _ {n c : ℕ} {U U' : Words} {root x r : ℕ} {p : List ℕ} where
  pub answered : look U p root ≢ x → Answer n c U U' root p x r → Anew n c U' x p root r
  answered z (asked e q) = absurd (z e)
  answered z (made q a) = a

  pub kept : look U p root ≡ x → Answer n c U U' root p x r → r ≡ root
  kept z (asked e q) = q
  kept z (made q a) = absurd (q z)

module _ {n tallest : ℕ} {t : Tables} {root d : ℕ} {cell : List ℕ} (q : Posed n tallest t root d cell) (v : ℕ) (low : height_at (W t) root ≤ d) where
  abbrev well : WellMade n (cap t) (W t)
  well = wf_made q.words q.well

  abbrev bare : Bare (cap t) (W t)
  bare = tables_bare t.nodes (cap t) q.well.sized.facts

  abbrev plan : Plan n (cap t) (W t) v cell root (plan_of n t v cell root)
  plan = plan_is q.words (omega arith) q.well v root q.there low q.cell_is

  had : (r : ℕ) → plan_of n t v cell root ≡ have r → Anew n (cap t) (W t) v cell root r × LiveOr0 (cap t) (W t) r
  had r e =
      let a : Anew n (cap t) (W t) v cell root r = plan_have (rw e at plan) in
      (a, (renewed n (cap t) (omega arith) (W t) well v q.there low q.cell_is a).there)

  -- a result that is to be had is the one, in whatever arena it is imagined
  had_one : (r c : ℕ) (W' : Words) (s : ℕ) → look (W t) cell root ≢ v → plan_of n t v cell root ≡ have r → Imagined n t root cell v c W' s → s ≡ r
  had_one r c W' s z e i =
      anew_one (omega arith) i.made (answered z i.answer)
      (anew_later (made_more i.size bare well) i.grows (there_more i.size q.there) q.cell_is (anew_more i.size (had r e).0))

  -- ---- what the number is

  module _ (k : ℕ) (m : Missing n t root cell v k) where
    old_none : (r : ℕ) → LiveOr0 (cap t) (W t) r → m.result ≡ r → k ≡ 0
    old_none r l e =
        let i = m.imagined in
        newly_one m.newly
        (newly_old (made_more i.size bare well) i.grows (subst (λ (y : ℕ). LiveOr0 m.slots (W t) y) (sym e) (there_more i.size l)))

    asked_none : look (W t) cell root ≡ v → k ≡ 0
    asked_none z = old_none root q.there (kept z m.imagined.answer)

    had_none : (r : ℕ) → look (W t) cell root ≢ v → plan_of n t v cell root ≡ have r → k ≡ 0
    had_none r z e = old_none r (had r e).1 (had_one r m.slots m.words m.result z e m.imagined)

    lacked : (j : ℕ) → look (W t) cell root ≢ v → plan_of n t v cell root ≡ lack j → k ≡ j
    lacked j z e =
        let i = m.imagined in
        newly_one m.newly (lacks_newly (lack_right q v low j m.result m.slots m.words e i.size i.made i.grows (answered z i.answer)))

  -- there is such an arena: the one of t if the result is there, else one that has as many slots more as nodes are lacking
  same : Extends n (cap t) (W t) (W t)
  same i j = record { still = j; kids = λ p f. refl; value = refl; height = refl }

  now : (r : ℕ) → Answer n (cap t) (W t) (W t) root cell v r → Imagined n t root cell v (cap t) (W t) r
  now r a = record { size = omega arith; made = well; grows = same; answer = a }

  itself : (r : ℕ) → LiveOr0 (cap t) (W t) r → Answer n (cap t) (W t) (W t) root cell v r → Missing n t root cell v 0
  itself r l a = record { slots = cap t; words = W t; result = r; imagined = now r a; newly = newly_old well same l }

  larger : d < 2 ^ 31 → (k : ℕ) → look (W t) cell root ≢ v → plan_of n t v cell root ≡ lack k → Missing n t root cell v k
  larger h k z e =
      let p = rw e at plan in
      let f = plan_few q.cell_is p in
      let s = q.well.sized.most in
      let o = room n (cap t) q.several q.words (W t) well bare v q.there low q.cell_is (omega arith) p in
      let y = o.size in
      let u : cap t ≤ o.slots = omega arith in
      record {
        slots = o.slots;
        words = o.words;
        result = o.id;
        imagined = record { size = u; made = o.made; grows = o.grows; answer = made z o.anew };
        newly = lacks_newly (lack_right q v low k o.id o.slots o.words e u o.made o.grows o.anew);
      }

  -- the result has a number of nodes that are not live (at a depth below 2^31: an arena imagined has no more than 2^32 slots) ..
  pub missing_some : d < 2 ^ 31 → (k : ℕ) × Missing n t root cell v k
  missing_some h = cases (ℕ_discrete (look (W t) cell root) v)
      (λ z. (0, itself root q.there (asked z refl)))
      (λ z. go z (plan_of n t v cell root) refl)
    where
      go : look (W t) cell root ≢ v → (r : Need) → plan_of n t v cell root ≡ r → (k : ℕ) × Missing n t root cell v k
      go z (have r) e = let o = had r e in (0, itself r o.1 (made z o.0))
      go z (lack k) e = (k, larger h k z e)

  -- .. and one, in whatever arena it is counted
  pub missing_one : (k j : ℕ) → Missing n t root cell v k → Missing n t root cell v j → k ≡ j
  missing_one k j m o = cases (ℕ_discrete (look (W t) cell root) v)
      (λ z. asked_none k m z ∙ sym (asked_none j o z))
      (λ z. go z (plan_of n t v cell root) refl)
    where
      go : look (W t) cell root ≢ v → (r : Need) → plan_of n t v cell root ≡ r → k ≡ j
      go z (have r) e = had_none k m r z e ∙ sym (had_none j o r z e)
      go z (lack i) e = lacked k m i z e ∙ sym (lacked j o i z e)

  -- with the refusals before it past, 11 is given exactly if that number is above the number of free slots
  pub eleven_right : (k : ℕ) → Missing n t root cell v k
      → (cell_no n t root d cell v ≡ 11 → cap t - 1 - live_in t.arena < k) × (cap t - 1 - live_in t.arena < k → cell_no n t root d cell v ≡ 11)
  eleven_right k m = (short, given)
    where
      short : cell_no n t root d cell v ≡ 11 → cap t - 1 - live_in t.arena < k
      short e =
          let r = eleven q v low e in
          let s = r.1 in
          let p = lacked k m s.0 r.0 s.1 in
          let f = s.2 in
          omega arith

      go : look (W t) cell root ≢ v → (r : Need) → plan_of n t v cell root ≡ r → cap t - 1 - live_in t.arena < k → cell_no n t root d cell v ≡ 11
      go z (have r) e h = absurd (let p = had_none k m r z e in omega arith)
      go z (lack j) e h = let p = lacked k m j z e in eleven_given q v low j z e (omega arith)

      given : cap t - 1 - live_in t.arena < k → cell_no n t root d cell v ≡ 11
      given h = cases (ℕ_discrete (look (W t) cell root) v)
          (λ z. absurd (let p = asked_none k m z in omega arith))
          (λ z. go z (plan_of n t v cell root) refl h)

  -- ---- the result of the dry run is the result imagined

  abbrev result : Need
  result = result_of n t v cell root

  pub result_there : (r : ℕ) → result ≡ have r → LiveOr0 (cap t) (W t) r × Imagined n t root cell v (cap t) (W t) r
  result_there r e = cases (ℕ_discrete (look (W t) cell root) v)
      (λ z. let p : root ≡ r = cc (result_old q v low z) in (subst (λ (y : ℕ). LiveOr0 (cap t) (W t) y) p q.there, now r (asked z (sym p))))
      (λ z. let h = had r (sym (result_new q v low z) ∙ e) in (h.1, now r (made z h.0)))

  pub result_one : (r c : ℕ) (W' : Words) (s : ℕ) → result ≡ have r → Imagined n t root cell v c W' s → s ≡ r
  result_one r c W' s e i = cases (ℕ_discrete (look (W t) cell root) v)
      (λ z. let p : root ≡ r = cc (result_old q v low z) in kept z i.answer ∙ p)
      (λ z. had_one r c W' s z (sym (result_new q v low z) ∙ e) i)

  -- where nodes are lacking, the result is one of them
  pub result_dead : (k c : ℕ) (W' : Words) (s : ℕ) → result ≡ lack k → Imagined n t root cell v c W' s → Live (cap t) (W t) s → ⊥
  result_dead k c W' s e i l = cases (ℕ_discrete (look (W t) cell root) v)
      (λ z. have_lack (sym (result_old q v low z) ∙ e))
      (λ z.
      let o = lack_right q v low k s c W' (sym (result_new q v low z) ∙ e) i.size i.made i.grows (answered z i.answer) in
      let h = i.size in
      let f = l.low in
      o.new.new (record { low = omega arith; is = l.is; high = l.high }))
