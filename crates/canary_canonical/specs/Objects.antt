-- Objects in JSON, by a table of their members.
use Rattle.std.specs.Prelude.{ℕ, List, [], ◌∷◌, Option, Some, None}
use Rattle.serde_json.specs.Data.{string, Members, put}
use Rattle.canary_canonical.specs.declared.object.Member.{Member}
use Rattle.canary_canonical.specs.declared.object.Member.TheVariants as member
use Rattle.canary_canonical.specs.Texts.{whole_data, data_or_null}

-- with a number under this key, if there is one
abbrev pub with_number_if : List ℕ → Option ℕ → Members → Members
with_number_if key None before = before
with_number_if key (Some n) before = put key (whole_data n) before

-- with this member
unfoldable pub with_member : Members → Member → Members
with_member before (member.Number key n) = put key.now (whole_data n) before
with_member before (member.LongNumber key n) = put key.now (whole_data n) before
with_member before (member.NumberOrNull key n) = put key.now (data_or_null whole_data n) before
with_member before (member.NumberIf key n) = with_number_if key.now n before
with_member before (member.Text key text) = put key.now (string text.now) before
with_member before (member.TextOrNull key text) =
    put key.now (data_or_null string text.now) before

-- with these members, one after another
abbrev pub with_members : Members → List Member → Members
with_members before [] = before
with_members before (m ∷ ms) = with_members (with_member before m) ms
