use Rattle.std.proofs.Common.{◌≡◌, ℕ, suc, List, [], ◌∷◌, ◌<◌, length, get_or, refl, arith, rules}
use Rattle.ids.specs.declared.BlockId.{BlockId}
use Rattle.arena.specs.Calls.{raw_ids}
use Rattle.arena_branch.proofs.raw_ids.Goals as goal

abbrev no_id : BlockId
no_id = record { 0 = 0 }

-- a list of as many numbers, each that of the id in its place
raw_same : (ids : List BlockId) (ks : List ℕ) → length ks ≡ length ids → ((i : ℕ) → i < length ids → get_or ks i 0 ≡ (get_or ids i no_id).0) → ks ≡ raw_ids ids
unfolding raw_ids
raw_same [] [] e h = refl
raw_same [] (k ∷ ks) e h = absurd (omega arith)
raw_same (b ∷ ids) [] e h = absurd (omega arith)
raw_same (b ∷ ids) (k ∷ ks) e h =
    let first : k ≡ b.0 = h 0 (omega arith) in
    let rest : ks ≡ raw_ids ids = raw_same ids ks (omega arith) (λ i l. h (suc i) (omega arith)) in
    cc

pub returns : goal.returns
returns c =
    let e = c.map.ensures.items in
    let long : length c.map.result ≡ length c.args.ids = search rules in
    raw_same c.args.ids c.map.result long (λ i l. let k = (e.at i no_id 0 (omega (arith, e.long))).2 in search rules)
