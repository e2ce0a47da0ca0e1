-- The way down, step by step, and the way up again along it.
use mathlib.Core.Path.{◌≡◌, refl, sym, ap, ◌∙◌, subst}
use mathlib.Core.List.{List}
use Prim.Native.Nat.{ℕ, zero, suc, ◌+◌, ◌-◌, ◌*◌, ◌/◌, ◌%◌, ◌^◌, ◌≤◌, ◌<◌}
use native.Mathlib.Nat.{pow-suc}
use native.Mathlib.Omega.{arith}
use lib.ListN.{length, get_or, set, replicate, length-set}
use lib.Seq.{get_or-set_same, get_or-set_other}
use borrow.Author.Tests.{le-leb, lt-leb}
use Rattle.basics.specs.Limits.{deepest}
use Rattle.nodes.specs.Words.{Words, word_of, nodes, kid_of}
use Rattle.tree.specs.Anew.{part}
use Rattle.tree.proofs.CellLaws.{octant_lt}
use Rattle.paths.specs.declared.Cell.{Cell}
use Rattle.edit_way.specs.Models.{ids_down, end_down, path_down, octants, way_from, way_of}
use Rattle.edit_way.proofs.Words.{part_kids}

-- ---- the way up: from a, which has l levels below it, by the digits p to the root, which has d

pub data Rises (U : Words) (f : ℕ → ℕ) (ids : List ℕ) (d root : ℕ) : ℕ → ℕ → ℕ → Type 0 where
  top : {p : ℕ} → Rises U f ids d root p d root
  step : {p l a : ℕ} → l < d → p % 8 ≡ f l → part U (get_or ids l 0) (f l) ≡ a → Rises U f ids d root (p / 8) (suc l) (get_or ids l 0) → Rises U f ids d root p l a

pub rises_below : {U : Words} {f : ℕ → ℕ} {ids : List ℕ} {d root p l a : ℕ} → Rises U f ids d root p l a → l ≤ d
rises_below top = omega arith
rises_below (step h e q r) = omega arith

-- what is written below is not on the way
rises_set : {U : Words} {f : ℕ → ℕ} {ids : List ℕ} {d root p l a : ℕ} (i x : ℕ) → i < l → Rises U f ids d root p l a → Rises U f (set ids i x) d root p l a
rises_set i x h top = top
rises_set {U} {f} {ids} {d} {root} {p} {l} {a} i x h (step b e q r) =
    let same : get_or (set ids i x) l 0 ≡ get_or ids l 0 = get_or-set_other ids i l x 0 (λ z. omega arith) in
    step b e (ap (λ (y : ℕ). part U y (f l)) same ∙ q)
    (subst (λ (y : ℕ). Rises U f (set ids i x) d root (p / 8) (suc l) y) (sym same) (rises_set i x (omega arith) r))

-- the way down makes it
pub down_rises : {U : Words} {f : ℕ → ℕ} {d root p : ℕ} (l : ℕ) {a : ℕ} {ids : List ℕ} → ((b : ℕ) → f b < 8) → d ≤ length ids → Rises U f ids d root p l a
    → Rises U f (ids_down U f a l ids) d root (path_down f p l) 0 (end_down U f a l)
unfolding ids_down end_down path_down
down_rises zero small room r = r
down_rises {U} {f} {d} {root} {p} (suc l) {a} {ids} small room r =
    let h = rises_below r in
    let c = small l in
    let at : get_or (set ids l a) l 0 ≡ a = get_or-set_same ids l a 0 (omega arith) in
    let digit : (8 * p + f l) % 8 ≡ f l = omega arith in
    let rest : (8 * p + f l) / 8 ≡ p = omega arith in
    down_rises {p = 8 * p + f l} l small (omega (arith, length-set ids l a))
    (step (omega arith) digit (ap (λ (y : ℕ). part U y (f l)) at)
    (subst (λ (y : ℕ). Rises U f (set ids l a) d root y (suc l) (get_or (set ids l a) l 0)) (sym rest)
    (subst (λ (y : ℕ). Rises U f (set ids l a) d root p (suc l) y) (sym at) (rises_set l a (omega arith) r))))

-- ---- the loop down

small_path : (n p : ℕ) → n ≤ 6 → p < 8 ^ n → p < 2 ^ 18
small_path zero p h l = omega arith
small_path (suc zero) p h l = omega arith
small_path (suc (suc zero)) p h l = omega arith
small_path (suc (suc (suc zero))) p h l = omega arith
small_path (suc (suc (suc (suc zero)))) p h l = omega arith
small_path (suc (suc (suc (suc (suc zero))))) p h l = omega arith
small_path (suc (suc (suc (suc (suc (suc zero)))))) p h l = omega arith
small_path (suc (suc (suc (suc (suc (suc (suc n))))))) p h l = absurd (omega arith)

-- what is left of the way from `at`, with `left` levels, is what is left of the whole way
pub record Falling (U : Words) (c : Cell) (root : ℕ) (ids : List ℕ) (at path left : ℕ) : Type 0 where
  pub passes : ids_down U (octants c) at left ids ≡ ids_down U (octants c) root c.depth (replicate 6 root)
  pub ends : end_down U (octants c) at left ≡ end_down U (octants c) root c.depth
  pub digits : path_down (octants c) path left ≡ path_down (octants c) 0 c.depth
  pub small : path < 8 ^ (c.depth - left)

module _ (U : Words) (c : Cell) (root : ℕ) where
  pub fall_none : deepest < c.depth → way_from (replicate 6 root) root 0 ≡ way_of U c root
  unfolding way_of
  fall_none h = rw (lt-leb c.depth deepest h)

  pub fall_start : Falling U c root (replicate 6 root) root 0 c.depth
  fall_start =
      let z : c.depth - c.depth ≡ 0 = omega arith in
      let e : 8 ^ (c.depth - c.depth) ≡ 1 = ap (λ (n : ℕ). 8 ^ n) z in
      record { passes = refl; ends = refl; digits = refl; small = omega arith }

  module _ (ids : List ℕ) (at path left : ℕ) (fall : Falling U c root ids at path left) where
    pub fall_end : c.depth ≤ deepest → left ≤ 0 → way_from ids at path ≡ way_of U c root
    unfolding way_of ids_down end_down path_down
    fall_end l h =
        let z : left ≡ 0 = omega arith in
        let i = rw z at fall.passes in
        let e = rw z at fall.ends in
        let p = rw z at fall.digits in
        rw (le-leb c.depth deepest l, sym i, sym e, sym p)

    module _ (down : 0 < left) (below : left ≤ c.depth) (deep : c.depth ≤ deepest) where
      pub fall_on : (o b : ℕ) → o ≡ octants c (left - 1) → o < 8 → b ≡ part U at o → Falling U c root (set ids (left - 1) at) b (8 * path + o) (left - 1)
      unfolding ids_down end_down path_down
      fall_on o b eo lo eb =
          let n : ℕ = left - 1 in
          let z : left ≡ suc n = omega arith in
          let q : b ≡ part U at (octants c n) = eb ∙ ap (part U at) eo in
          let m : c.depth - n ≡ suc (c.depth - left) = omega arith in
          let e : 8 ^ (c.depth - n) ≡ 8 ^ (c.depth - left) * 8 = ap (λ (k : ℕ). 8 ^ k) m ∙ pow-suc 8 (c.depth - left) in
          let s = fall.small in
          record {
            passes = ap (λ (x : ℕ). ids_down U (octants c) x n (set ids n at)) q ∙ sym (ap (λ (x : ℕ). ids_down U (octants c) at x ids) z) ∙ fall.passes;
            ends = ap (λ (x : ℕ). end_down U (octants c) x n) q ∙ sym (ap (end_down U (octants c) at) z) ∙ fall.ends;
            digits = ap (λ (x : ℕ). path_down (octants c) (8 * path + x) n) eo ∙ sym (ap (path_down (octants c) path) z) ∙ fall.digits;
            small = omega arith;
          }

      pub fall_small : (o b : ℕ) → o ≡ octants c (left - 1) → o < 8 → b ≡ part U at o → 8 * path + o < 2 ^ 18
      fall_small o b eo lo eb = small_path (c.depth - (left - 1)) (8 * path + o) (omega arith) (fall_on o b eo lo eb).small

-- ---- by the words

module _ (k g : List ℕ) (f : ℕ → ℕ) (small : (b : ℕ) → f b < 8) where
  ids_words : (l a : ℕ) (ids : List ℕ) → ids_down (kid_of k) f a l ids ≡ ids_down (word_of (nodes k g)) f a l ids
  unfolding ids_down
  ids_words zero a ids = refl
  ids_words (suc l) a ids = ids_words l (part (kid_of k) a (f l)) (set ids l a) ∙ ap (λ (x : ℕ). ids_down (word_of (nodes k g)) f x l (set ids l a)) (part_kids k g a (f l) (small l))

  end_words : (l a : ℕ) → end_down (kid_of k) f a l ≡ end_down (word_of (nodes k g)) f a l
  unfolding end_down
  end_words zero a = refl
  end_words (suc l) a = end_words l (part (kid_of k) a (f l)) ∙ ap (λ (x : ℕ). end_down (word_of (nodes k g)) f x l) (part_kids k g a (f l) (small l))

pub way_words : (k g : List ℕ) (c : Cell) (root : ℕ) → way_of (kid_of k) c root ≡ way_of (word_of (nodes k g)) c root
unfolding way_of
way_words k g c root =
    let small : (b : ℕ) → octants c b < 8 = (λ b. octant_lt b c.x c.y c.z) in
    rw (ids_words k g (octants c) small c.depth root (replicate 6 root), end_words k g (octants c) small c.depth root)
