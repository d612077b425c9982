-- What serde_json reads of a text.
use Rattle.std.proofs.Common.{◌≡◌, ℕ, List, Bool, true, false, Some, None, refl}
use Rattle.std.specs.Str.{IsUtf8, is_utf8}
use Rattle.std.proofs.lemmas.Str.{is_utf8-from_IsUtf8, IsUtf8-from_is_utf8}
use Rattle.serde_json.specs.Data.{Data}
use Rattle.serde_json.specs.Read.{read}
use Rattle.canary_check.specs.Taken.{is_taken, is_manifest_taken}
use Rattle.canary_check.specs.Waiting.{is_attended, is_manifest_attended}

pub json_is : (text : List ℕ) (manifest : Data) → IsUtf8 text → read text ≡ Some manifest → is_taken text ≡ is_manifest_taken text manifest
json_is text manifest utf8 found = rw (is_utf8-from_IsUtf8 text utf8, found) refl

pub attended_is : (text : List ℕ) (manifest : Data) → IsUtf8 text → read text ≡ Some manifest → is_attended text ≡ is_manifest_attended text manifest
attended_is text manifest utf8 found = rw (is_utf8-from_IsUtf8 text utf8, found) refl

-- the test, its value, and what it says of the text
no_json : (text : List ℕ) (test : Bool) → is_utf8 text ≡ test → (IsUtf8 text → read text ≡ None) → is_taken text ≡ false
no_json text true is none = rw (is, none (IsUtf8-from_is_utf8 text is)) refl
no_json text false is none = rw is refl

pub json_is_none : (text : List ℕ) → (IsUtf8 text → read text ≡ None) → is_taken text ≡ false
json_is_none text none = no_json text (is_utf8 text) refl none

no_json_attended : (text : List ℕ) (test : Bool) → is_utf8 text ≡ test → (IsUtf8 text → read text ≡ None) → is_attended text ≡ true
no_json_attended text true is none = rw (is, none (IsUtf8-from_is_utf8 text is)) refl
no_json_attended text false is none = rw is refl

pub attended_is_none : (text : List ℕ) → (IsUtf8 text → read text ≡ None) → is_attended text ≡ true
attended_is_none text none = no_json_attended text (is_utf8 text) refl none

-- what a check says of a text that is read, or is not
pub ruleset what_is_read = (json_is, json_is_none, attended_is, attended_is_none)
