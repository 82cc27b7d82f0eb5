-- What a stop leaves while a log is read, and while its closings are committed.
use Rattle.std.proofs.Common.{◌≡◌, inl, inr, List, ℕ, ◌∙◌, subst}
use Rattle.plant_io.specs.Story.{Story, content, sent}
use Rattle.plant_io.specs.Stops.{StopsLeave}
use Rattle.plant_io.proofs.Images.{content_is_image}
use Rattle.plant_io.proofs.Moments.{at_end, goes_on, weaker}
use Rattle.disk_journal.specs.Attach.{AttachLeaves, IsKept}
use Rattle.recovery.specs.Frames.{CloseLeaves}
use Rattle.recovery.specs.Leaves.{IsClosing, RecoverLeaves}

-- while it is read, a stop leaves what one before it might have left
pub read_leaves : {first middle : Story} → StopsLeave first middle (AttachLeaves first) → StopsLeave first middle (RecoverLeaves first)
read_leaves {first} {middle} stops =
    weaker first middle (AttachLeaves first) (RecoverLeaves first)
    (λ image bytes is. record { file = inl is.image_before; nothing_sent = is.nothing_sent }) stops

-- and then so it does, or a log of the rows that were read, some of them closed
pub then_closes : {first middle last : Story} → IsKept first middle → StopsLeave first middle (AttachLeaves first)
    → StopsLeave middle last (CloseLeaves middle) → StopsLeave first last (RecoverLeaves first)
then_closes {first} {middle} {last} kept read closed =
    goes_on first middle last (RecoverLeaves first) (read_leaves read)
    (weaker middle last (CloseLeaves middle) (RecoverLeaves first)
    (λ image bytes is. record {
      file = inr (subst (λ (file : List ℕ). IsClosing file image) kept.same is.closing);
      nothing_sent = is.nothing_sent ∙ kept.nothing_sent;
    }) closed)

pub nothing_sent : {before now : Story} → StopsLeave before now (RecoverLeaves before) → sent now ≡ sent before
nothing_sent {before} {now} stops = (at_end before now (RecoverLeaves before) stops (content now) (content_is_image now)).nothing_sent
