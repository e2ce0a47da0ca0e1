use Rattle.std.proofs.Common.{◌≡◌, ℕ, List, get_or, arith}
use Rattle.find_hash.specs.Hash.{term}
use Rattle.find_hash.proofs.Hashes.{sum_first, sum_next, sum_last}
use Rattle.find_hash.proofs.kids_hash.Goals as goal

pub loop-i-init : goal.loop-i-init
loop-i-init c = sum_first c.args.ks

-- the term has child i's place and its id
term_at : (ks : List ℕ) (i t p q : ℕ) → t ≡ term p (get_or ks q 0) → p ≡ i → q ≡ i → t ≡ term i (get_or ks i 0)
term_at ks i t p q e a b = rw (a, b) at e

pub loop-i-preserved : goal.loop-i-preserved
loop-i-preserved c = sum_next c.args.ks c.loop-i.i c.loop-i.sum _ c.loop-i.invariant (term_at c.args.ks c.loop-i.i _ _ _ c.term-sum.ensures (omega arith) (omega arith))

pub returns : goal.returns
returns c = sum_last c.args.ks c.loop-i.i c.loop-i.sum (omega (arith, c.loop-i.auto.i-end, c.loop-i-test.false)) c.loop-i.invariant
