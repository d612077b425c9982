-- What serde_json reads of a body.
use Rattle.std.proofs.Common.{◌≡◌, ℕ, List, Bool, true, false, Some, None, refl}
use Rattle.std.specs.Str.{IsUtf8, is_utf8}
use Rattle.std.proofs.lemmas.Str.{is_utf8-from_IsUtf8, IsUtf8-from_is_utf8}
use Rattle.serde_json.specs.Data.{Data}
use Rattle.serde_json.specs.Read.{read}
use Rattle.canary_manifest.specs.Readings.{unreadable}
use Rattle.canary_manifest.specs.Commands.{command_reading, body_reading}

pub body_is_json : (bytes : List ℕ) (value : Data) → IsUtf8 bytes → read bytes ≡ Some value → body_reading bytes ≡ command_reading value
body_is_json bytes value text found = rw (is_utf8-from_IsUtf8 bytes text, found) refl

-- the test, its value, and what it says of the bytes
no_json : (bytes : List ℕ) (test : Bool) → is_utf8 bytes ≡ test → (IsUtf8 bytes → read bytes ≡ None) → body_reading bytes ≡ unreadable
no_json bytes true is none = rw (is, none (IsUtf8-from_is_utf8 bytes is)) refl
no_json bytes false is none = rw is refl

pub body_is_no_json : (bytes : List ℕ) → (IsUtf8 bytes → read bytes ≡ None) → body_reading bytes ≡ unreadable
body_is_no_json bytes none = no_json bytes (is_utf8 bytes) refl none
