-- What holds of a card through any list of events: it lives through them one after another, and one that is served is served to the end. By the three
-- laws of an event (Stays.antt), event after event. Assumes nothing.
use mathlib.Core.Path.{◌≡◌, refl}
use mathlib.Core.List.{List, [], ◌∷◌, ◌++◌}
use Rattle.play.specs.Life.{Tag, AcceptedTag, Event, Frame, Mark, Off, met, tag_after, lived}
use Rattle.play.proofs.Stays.{frame_stays, mark_stays, off_stays}

pub met_stays : (e : Event) (t : Tag) → AcceptedTag t → AcceptedTag (tag_after (met e t))
unfolding met tag_after
met_stays (Frame bytes) t a = frame_stays t.card bytes t.memory t.locks t.room a
met_stays Mark t a = mark_stays t.card t.memory t.locks t.room a
met_stays Off t a = off_stays t.card t.memory t.locks t.room a

pub lived_stays : (es : List Event) (t : Tag) → AcceptedTag t → AcceptedTag (lived es t)
unfolding lived
lived_stays [] t a = a
lived_stays (e ∷ es) t a = lived_stays es (tag_after (met e t)) (met_stays e t a)

-- ---- a life in parts

pub lived_one : (e : Event) (t : Tag) → lived (e ∷ []) t ≡ tag_after (met e t)
unfolding lived
lived_one e t = refl

pub lived_append : (es fs : List Event) (t : Tag) → lived (es ++ fs) t ≡ lived fs (lived es t)
unfolding lived
lived_append [] fs t = refl
lived_append (e ∷ es) fs t = lived_append es fs (tag_after (met e t))
