-- What holds of all contents, and when they are sound.
use Rattle.canary_release.specs.Order.{AreInOrder}
use Rattle.canary_release.specs.Sound.{AreSound}
use Rattle.canary_once.specs.Contents.{Contents, HaveReceipts, KeepsSettled}

-- what holds of all contents: a caller has at least one receipt and at most 1,000,000,000, no
-- receipt is of a conflict, and the desk is in order
pub record AreContents (c : Contents) : Type 0 where
  pub numbers : HaveReceipts c.callers
  pub statuses : KeepsSettled c
  pub desk : AreInOrder c.desk

-- each verdict is that of its run's recorded measurements
abbrev pub AreSoundContents : Contents → Type 0
AreSoundContents c = AreSound c.desk
