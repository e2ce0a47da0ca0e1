use Rattle.std.proofs.Common.{rules}
use Rattle.metres.specs.Models.{judged}
use Rattle.metres.proofs.Parsing.{judged_unknown}
use Rattle.metres.proofs.Words.judge.Goals.{then-self-ne0-via-then-self-ne0, then-self-ne0-via-else-self-ne0+then-is_wrong}
use Rattle.metres.proofs.Words.judge.Goals as goal

pub returns-in_err-kind : goal.returns-in_err-kind
returns-in_err-kind c = search (rules, judged_unknown)

pub returns-then-self-ne0 : goal.returns-then-self-ne0
unfolding judged
returns-then-self-ne0 c = search rules

pub returns-then-not-all_finite : goal.returns-then-not-all_finite
unfolding judged
returns-then-not-all_finite c = search rules

pub returns : goal.returns
unfolding judged
returns c = search rules
