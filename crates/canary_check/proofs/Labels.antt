-- A name is a label.
use Rattle.std.proofs.Common.{◌≡◌, ℕ, List, [], ◌∷◌, Bool, true, false, refl}
use Rattle.std.specs.Prelude.{◌&&◌, ◌||◌, nat_le, ◌==◌, not, length, slice_index, ◌-◌}
use Rattle.std.specs.List.{list_all}
use Rattle.canary_base.specs.Names.{is_name, is_name_byte, is_label, is_label_byte}

byte : (small digit dash large dot low : Bool) → (small || digit || dash) ≡ true → (large || small || digit || dot || low || dash) ≡ true
byte small digit dash true dot low h = refl
byte true digit dash false dot low h = refl
byte false true dash false dot low h = refl
byte false false dash false true low h = refl
byte false false dash false false true h = refl
byte false false dash false false false h = h

front : (a b : Bool) → (a && b) ≡ true → a ≡ true
front true b h = refl
front false b h = h

back : (a b : Bool) → (a && b) ≡ true → b ≡ true
back true b h = h
back false true h = refl
back false false h = h

bytes : (text : List ℕ) → list_all is_name_byte text ≡ true → list_all is_label_byte text ≡ true
bytes [] h = refl
bytes (b ∷ text) h =
    let here = byte (nat_le 97 b && nat_le b 122) (nat_le 48 b && nat_le b 57) (b == 45) (nat_le 65 b && nat_le b 90) (b == 46) (b == 95) (front (is_name_byte b) (list_all is_name_byte text) h) in
    rw (here, bytes text (back (is_name_byte b) (list_all is_name_byte text) h)) refl

-- the tests of a name, and the two of a label beside that on its bytes
whole : (some few names labels first last : Bool) → (names ≡ true → labels ≡ true) → (some && few && names && first && last) ≡ true → (some && few && labels) ≡ true
whole true true true labels first last f h = f refl
whole true true false labels first last f h = f h
whole true false names labels first last f h = h
whole false few names labels first last f h = h

pub name_is_label : (text : List ℕ) → is_name text ≡ true → is_label text ≡ true
name_is_label text h =
    whole (not (length text == 0)) (nat_le (length text) 63) (list_all is_name_byte text) (list_all is_label_byte text) (not (slice_index text 0 == 45)) (not (slice_index text (length text - 1) == 45)) (bytes text) h
