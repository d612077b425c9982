-- The members of an object, counted.
use Rattle.std.proofs.Common.{◌≡◌, ◌≢◌, List, [], ◌∷◌, length, Some, None, String, Global, string_bytes, refl, arith}
use Rattle.std.specs.Prelude.{slice_get}
use Rattle.serde_json.specs.Events.{members_len}
use Rattle.serde_json.specs.View.{view, members_view}
use Rattle.serde_json.specs.declared.value.Value.{Value}
use Rattle.serde_json.proofs.Views.{Entry, members_len-members_view}
use Rattle.canary_canonical.specs.Forms.{only_member}

pub members_len_view : (entries : List Entry) → members_len (members_view entries) ≡ length entries
members_len_view = members_len-members_view

pub only_of_one : (entries : List Entry) (key : String Global) (value : Value) → length entries ≡ 1 → slice_get entries 0 ≡ Some (key, value)
    → only_member (members_view entries) ≡ Some (string_bytes key, view value)
only_of_one [] key value one first = absurd (omega (arith, one))
only_of_one (entry ∷ []) key value one first = cc
only_of_one (entry ∷ next ∷ more) key value one first = absurd (omega (arith, one))

pub none_of_more : (entries : List Entry) → length entries ≢ 1 → only_member (members_view entries) ≡ None
none_of_more [] other = refl
none_of_more (entry ∷ []) other = absurd (other (omega arith))
none_of_more (entry ∷ next ∷ more) other = refl
