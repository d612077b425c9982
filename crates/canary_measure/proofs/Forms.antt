-- Labels and forms: a form's label is one of canary_decimal's, and the shape stands at its end.
use Rattle.std.proofs.Common.{◌≡◌, ℕ, ◌+◌, ◌^◌, ◌<◌, ◌≤◌, true, List, [], ◌∷◌, ◌++◌, length, drop, Some, None, refl, sym, ap, ◌∙◌, inl, inr, arith, rules, append_assoc, length-append}
use Rattle.std.specs.Prelude.{◌/◌, ◌%◌, codes}
use Rattle.std.specs.Char.{is_ascii_digit}
use Rattle.std.specs.Fmt.{decimal}
use Rattle.std.specs.List.{list_all}
use Rattle.std.specs.Str.Parse.{digits_value}
use Rattle.std.proofs.lemmas.Fmt.{decimal_digit, decimal_step, decimal_nonempty, digits_decimal}
use Rattle.std.proofs.lemmas.List.{drop_at}
use Rattle.std.proofs.lemmas.Option.{none-some, same_Some}
use Rattle.std.proofs.lemmas.Str.Parse.{IsNumeralModel, numerals_by_value}
use Rattle.canary_decimal.specs.declared.shown.Units.{Units}
use Rattle.canary_decimal.specs.Spelling.{IsDigits}
use Rattle.canary_decimal.specs.Endings.{beside_text, IsShape, IsLabelOf, OneEnding}
use Rattle.canary_argo.specs.declared.form.Form.{Form}
use Rattle.canary_argo.specs.declared.form.Shape.{Shape}
use Rattle.canary_argo.specs.declared.form.Shape.TheVariants.{One, First, Several, Length}
use Rattle.canary_argo.specs.Labels.{shape_text, has_length, suffix_of, units_of}
use Rattle.canary_measure.specs.Labelled.{IsShapeWithin, IsLabelIn, OneForm, front_of, shape_in}
use Rattle.canary_measure.proofs.Shapes.{shape_read, shape_sound}

own : IsNumeralModel (λ ds. list_all is_ascii_digit ds ≡ true) (digits_value 10)
own = numerals_by_value _ (search rules)

digits : (n : ℕ) → n < 2 ^ 64 → IsDigits (decimal n)
digits n h = (decimal_nonempty n h, digits_decimal own n h)

shape_is : (shape : Shape) → IsShapeWithin shape → IsShape (has_length shape) (shape_text shape)
shape_is One h = inl refl
shape_is First h = inr (inl refl)
shape_is (Several most) (some, few) = inr (inr (decimal most, digits most (omega arith), refl))
shape_is (Length most) few = (decimal most, digits most (omega arith), refl)

-- a label of a form is a label as canary_decimal reads it
pub label_of : (label name : List ℕ) (form : Form) → IsLabelIn label name form → IsLabelOf label name (units_of form)
label_of label name form (some, (low, high, shape), e) =
    (some, (suffix_of form, e, (low, high, (shape_text form.shape, shape_is form.shape shape, refl))))

-- ---- where the shape stands

-- the label is the name, the front and the shape
in_parts : (label name ending shape : List ℕ) (u : Units) → label ≡ name ++ ending → ending ≡ codes ".e" ++ (decimal u.places ++ (beside_text u.beside ++ shape)) → label ≡ (name ++ front_of u) ++ shape
in_parts label name ending shape u e f =
    let tail : decimal u.places ++ (beside_text u.beside ++ shape) ≡ (decimal u.places ++ beside_text u.beside) ++ shape = sym (append_assoc (decimal u.places) (beside_text u.beside) shape) in
    let whole : ending ≡ front_of u ++ shape = f ∙ ap (λ (t : List ℕ). codes ".e" ++ t) tail in
    e ∙ ap (λ (t : List ℕ). name ++ t) whole ∙ sym (append_assoc name (front_of u) shape)

shape_at : (label name ending shape : List ℕ) (u : Units) → label ≡ name ++ ending → ending ≡ codes ".e" ++ (decimal u.places ++ (beside_text u.beside ++ shape)) → drop (length name + length (front_of u)) label ≡ shape
shape_at label name ending shape u e f =
    ap (drop (length name + length (front_of u))) (in_parts label name ending shape u e f)
    ∙ drop_at (name ++ front_of u) shape (length name + length (front_of u)) (length-append name (front_of u))

-- ---- the form of a label

pub form_found : (label name text : List ℕ) (u : Units) (shape : Shape) → IsLabelOf label name u → text ≡ drop (length name + length (front_of u)) label → shape_in text ≡ Some shape → IsLabelIn label name (record { places = u.places; shape = shape; beside = u.beside })
form_found label name text u shape (some, (ending, e, (low, high, (written, is, f)))) at found =
    let it = shape_sound text shape found in
    let same : written ≡ shape_text shape = sym (shape_at label name ending written u e f) ∙ sym at ∙ it.1 in
    (some, (low, high, it.0), e ∙ ap (λ (t : List ℕ). name ++ t) (f ∙ ap (λ (t : List ℕ). codes ".e" ++ (decimal u.places ++ (beside_text u.beside ++ t))) same))

-- the shape of a form stands where canary_decimal's label says
shape_of_form : OneEnding → (label first name : List ℕ) (u : Units) (form : Form) → IsLabelOf label first u → IsLabelIn label name form → drop (length first + length (front_of u)) label ≡ shape_text form.shape
shape_of_form one label first name u form is l =
    let same = one label first name u (units_of form) is (label_of label name form l) in
    ap (λ (t : List ℕ). drop (length t + length (front_of u)) label) same.0
    ∙ ap (λ (v : Units). drop (length name + length (front_of v)) label) same.1
    ∙ shape_at label name (suffix_of form) (shape_text form.shape) (units_of form) l.2 refl

pub form_missing : OneEnding → (label first text : List ℕ) (u : Units) → IsLabelOf label first u → text ≡ drop (length first + length (front_of u)) label → shape_in text ≡ None → (name : List ℕ) (form : Form) → IsLabelIn label name form → ⊥
form_missing one label first text u is at none name form l =
    none-some form.shape (sym none ∙ ap shape_in (at ∙ shape_of_form one label first name u form is l) ∙ shape_read form.shape l.1.2)

pub one_form : OneEnding → OneForm
one_form one label first second a b l m =
    let ours = label_of label first a l in
    let same = one label first second (units_of a) (units_of b) ours (label_of label second b m) in
    let own = shape_of_form one label first first (units_of a) a ours l in
    let other = shape_of_form one label first second (units_of a) b ours m in
    let shapes : a.shape ≡ b.shape = same_Some a.shape b.shape (sym (shape_read a.shape l.1.2) ∙ ap shape_in (sym own ∙ other) ∙ shape_read b.shape m.1.2) in
    (same.0, λ i. record { places = (same.1 i).places; shape = shapes i; beside = (same.1 i).beside })

-- ---- how long the front is

one_digit : (n : ℕ) → n < 10 → length (decimal n) ≡ 1
one_digit n less = ap length (decimal_digit n less)

two_digits : (n : ℕ) → 10 ≤ n → n ≤ 18 → length (decimal n) ≡ 2
two_digits n more few =
    let front : n / 10 ≡ 1 = omega arith in
    ap length (decimal_step n more (omega arith)) ∙ length-append (decimal (n / 10)) ((48 + n % 10) ∷ [])
    ∙ ap (λ (k : ℕ). length (decimal k) + 1) front ∙ ap (λ (k : ℕ). k + 1) (one_digit 1 (omega arith))

front_of_places : (n k m : ℕ) (letter : List ℕ) → length (decimal n) ≡ k → m ≡ length letter → 2 + k + m ≡ length (codes ".e" ++ (decimal n ++ letter))
front_of_places n k m letter digits e =
    let whole : length (decimal n ++ letter) ≡ k + m = length-append (decimal n) letter ∙ ap (λ (j : ℕ). j + length letter) digits ∙ ap (λ (j : ℕ). k + j) (sym e) in
    omega arith

pub short_front : (n m : ℕ) (letter : List ℕ) → n < 10 → m ≡ length letter → 3 + m ≡ length (codes ".e" ++ (decimal n ++ letter))
short_front n m letter less e = front_of_places n 1 m letter (one_digit n less) e

pub long_front : (n m : ℕ) (letter : List ℕ) → 10 ≤ n → n ≤ 18 → m ≡ length letter → 4 + m ≡ length (codes ".e" ++ (decimal n ++ letter))
long_front n m letter more few e = front_of_places n 2 m letter (two_digits n more few) e
