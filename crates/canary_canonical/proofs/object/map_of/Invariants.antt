use Rattle.std.proofs.Common.{◌≡◌, drop}
use Rattle.serde_json.specs.Data.{no_members}
use Rattle.serde_json.specs.View.{members_view}
use Rattle.canary_canonical.specs.Objects.{with_members}
use Rattle.canary_canonical.proofs.object.map_of.Given as goal

-- what is left leads to where all lead
abbrev pub invariant-loop-member : goal.invariant-loop-member
invariant-loop-member l =
    with_members (members_view l.object.entries) (drop l.member-index l.members)
    ≡ with_members no_members l.members
