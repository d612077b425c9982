use Rattle.canary_release.proofs.Sounding.{no_desk_sound, stay_sound}
use Rattle.canary_release.proofs.laws.sound.Goals as goal

pub returns : goal.returns
returns c = record { empty = no_desk_sound; keeping = stay_sound c.watching.ensures c.parts.ensures.passing c.parts.ensures.acting c.parts.ensures.adding }
