-- `frames::is_sound` meets its contract: the definition goes by the same tests. Assumes nothing.
use Rattle.std.proofs.Common.{rules, ◌≤◌, ◌<◌, ◌⊎◌, ◌∙◌, sym, length}
use Rattle.frames.specs.Frame.{shortest, longest}
use Rattle.frames.proofs.Sound.{sound_within, unsound_past}
use Rattle.frames.proofs.is_sound.Goals as goal

pub returns-then-contains : goal.returns-then-contains
unfolding shortest longest
returns-then-contains c =
    let least : 4 ≤ length c.args.frame.now = search rules in
    let most : length c.args.frame.now ≤ 64 = search rules in
    c.is_sealed.ensures ∙ sym (sound_within _ least most)

pub returns-else-contains : goal.returns-else-contains
unfolding shortest longest
returns-else-contains c =
    let past : (length c.args.frame.now < 4) ⊎ (64 < length c.args.frame.now) = search rules in
    c.if-contains.false ∙ sym (unsound_past _ past)
