use Rattle.std.proofs.Common.{◌≡◌, Bool, List, ℕ, rules, ap, ◌∙◌}
use Rattle.arena.specs.Lent.{before}
use Rattle.arena.specs.Seen.{seen_in}
use Rattle.arena.specs.Tables.{Tables}
use Rattle.arena.proofs.Seeing.{seen_before}
use Rattle.check_arena.specs.Models.{sound_by}
use Rattle.check_arena.proofs.Deciding.{refused, answered, kept}
use Rattle.check_arena.proofs.check_arena.Goals as goal

abbrev sound_in : Tables → Bool
sound_in t = sound_by t.arena t.nodes.kids t.nodes.facts t.find

pub returns-then-is_sound : goal.returns-then-is_sound
returns-then-is_sound c =
    let is = c.is_sound.ensures ∙ ap sound_in (seen_before c.seen.result _ _ _ _ c.seen.ensures) in
    (answered _ _ _ _ _ is c.tallies.result c.if-is_sound.true c.tallies.ensures.0, kept _ _ _ _ _ is _ c.if-is_sound.true c.tallies.ensures.1)

pub returns-else-is_sound : goal.returns-else-is_sound
returns-else-is_sound c =
    (refused _ _ _ _ _ (c.is_sound.ensures ∙ ap sound_in (seen_before c.seen.result _ _ _ _ c.seen.ensures)) c.if-is_sound.false, search rules)
