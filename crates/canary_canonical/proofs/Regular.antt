-- What is written in JSON with its keys in order is read back.
use Rattle.std.proofs.Common.{◌≡◌, pos, negsuc, [], max, suc, Bool, true, false, Some, refl, sym, ap, ap₂, ◌∙◌, ◌<◌, ◌≤◌, ◌^◌, arith, append-nil, true≢false}
use Rattle.std.specs.Prelude.{◌||◌, option_map, option_and_then, ⊤}
use Rattle.json.specs.Lex.{tokens}
use Rattle.json.specs.Print.{IsNumber}
use Rattle.json.specs.Json as json
use Rattle.json.specs.Tree as tree
use Rattle.json.proofs.Printed.Tokens.{tokens-print}
use Rattle.json.proofs.Printed.Trees.{value-json_tokens, ArePrintable-json_tokens}
use Rattle.json.proofs.Printed.Decimals.{IsNumber-decimal, IsNumber-signed_decimal}
use Rattle.serde_json.specs.Data.{Num, unsigned, negative, float, Data, null, boolean, number, string, array, object, Items, no_items, item, Members, no_members, member, put, depth, items_depth, members_depth}
use Rattle.serde_json.specs.Find.{is_float}
use Rattle.serde_json.specs.Read.{read, max_depth, number_of, of_json, of_items, of_members}
use Rattle.serde_json.specs.Written.{number_text, outline, items_outline, members_outline, compact_text, has_float, items_have_float, members_have_float}
use Rattle.serde_json.proofs.Numbers.{number_of-decimal, number_of-negative}
use Rattle.serde_json.proofs.Texts.{print-outline}

-- 64 bits hold it; a whole number has a sign if it is below 0
abbrev pub FitsWord : Num → Type 0
FitsWord (unsigned n) = n < 2 ^ 64
FitsWord (negative (pos n)) = ⊥
FitsWord (negative (negsuc n)) = n < 2 ^ 63
FitsWord (float x) = ⊤

-- each whole number fits 64 bits
abbrev mutual
  pub NumbersFit : Data → Type 0
  NumbersFit null = ⊤
  NumbersFit (boolean b) = ⊤
  NumbersFit (number n) = FitsWord n
  NumbersFit (string s) = ⊤
  NumbersFit (array ds) = ItemsFit ds
  NumbersFit (object ms) = MembersFit ms

  pub ItemsFit : Items → Type 0
  ItemsFit no_items = ⊤
  ItemsFit (item d ds) = NumbersFit d × ItemsFit ds

  pub MembersFit : Members → Type 0
  MembersFit no_members = ⊤
  MembersFit (member k d ms) = NumbersFit d × MembersFit ms

-- the members put in one after another
abbrev pub rebuilt : Members → Members → Members
rebuilt no_members found = found
rebuilt (member k d ms) found = rebuilt ms (put k d found)

-- the members of each object stand in the order of their keys
abbrev mutual
  pub IsInOrder : Data → Type 0
  IsInOrder null = ⊤
  IsInOrder (boolean b) = ⊤
  IsInOrder (number n) = ⊤
  IsInOrder (string s) = ⊤
  IsInOrder (array ds) = ItemsInOrder ds
  IsInOrder (object ms) = (rebuilt ms no_members ≡ ms) × MembersInOrder ms

  pub ItemsInOrder : Items → Type 0
  ItemsInOrder no_items = ⊤
  ItemsInOrder (item d ds) = IsInOrder d × ItemsInOrder ds

  pub MembersInOrder : Members → Type 0
  MembersInOrder no_members = ⊤
  MembersInOrder (member k d ms) = IsInOrder d × MembersInOrder ms

neither : (a b : Bool) → (a || b) ≡ false → (a ≡ false) × (b ≡ false)
neither true b e = absurd (true≢false e)
neither false b e = (refl, e)

-- ---- numbers

number_read : (n : Num) → FitsWord n → is_float n ≡ false → number_of (number_text n) ≡ Some n
number_read (unsigned n) h e = number_of-decimal n h
number_read (negative (pos n)) h e = absurd h
number_read (negative (negsuc n)) h e = number_of-negative n h
number_read (float x) h e = absurd (true≢false e)

is_number : (n : Num) → FitsWord n → is_float n ≡ false → IsNumber (number_text n)
is_number (unsigned n) h e = IsNumber-decimal n h
is_number (negative (pos n)) h e = absurd h
is_number (negative (negsuc n)) h e = IsNumber-signed_decimal (negsuc n) (omega arith)
is_number (float x) h e = absurd (true≢false e)

-- ---- what is printed is read

mutual
  data_read : (d : Data) → NumbersFit d → has_float d ≡ false → IsInOrder d → of_json (outline d) ≡ Some d
  data_read null h e o = refl
  data_read (boolean b) h e o = refl
  data_read (number n) h e o = ap (option_map number) (number_read n h e)
  data_read (string s) h e o = refl
  data_read (array ds) h e o = ap (option_map array) (items_read ds h e o)
  data_read (object ms) h e o = ap (option_map object) (members_read ms no_members h e o.1 ∙ ap Some o.0)

  items_read : (ds : Items) → ItemsFit ds → items_have_float ds ≡ false → ItemsInOrder ds → of_items (items_outline ds) ≡ Some ds
  items_read no_items h e o = refl
  items_read (item d ds) h e o =
      let f = neither (has_float d) (items_have_float ds) e in
      rw (data_read d h.0 f.0 o.0, items_read ds h.1 f.1 o.1) refl

  members_read : (ms found : Members) → MembersFit ms → members_have_float ms ≡ false → MembersInOrder ms → of_members (members_outline ms) found ≡ Some (rebuilt ms found)
  members_read no_members found h e o = refl
  members_read (member k d ms) found h e o =
      let f = neither (has_float d) (members_have_float ms) e in
      rw (data_read d h.0 f.0 o.0) (members_read ms (put k d found) h.1 f.1 o.1)

mutual
  depth_printed : (d : Data) → tree.depth (outline d) ≡ depth d
  depth_printed null = refl
  depth_printed (boolean b) = refl
  depth_printed (number n) = refl
  depth_printed (string s) = refl
  depth_printed (array ds) = ap suc (items_depth_printed ds)
  depth_printed (object ms) = ap suc (members_depth_printed ms)

  items_depth_printed : (ds : Items) → tree.items_depth (items_outline ds) ≡ items_depth ds
  items_depth_printed no_items = refl
  items_depth_printed (item d ds) = ap₂ max (depth_printed d) (items_depth_printed ds)

  members_depth_printed : (ms : Members) → tree.members_depth (members_outline ms) ≡ members_depth ms
  members_depth_printed no_members = refl
  members_depth_printed (member k d ms) = ap₂ max (depth_printed d) (members_depth_printed ms)

mutual
  has_numbers : (d : Data) → NumbersFit d → has_float d ≡ false → tree.HasNumbers (outline d)
  has_numbers null h e = tt
  has_numbers (boolean b) h e = tt
  has_numbers (number n) h e = is_number n h e
  has_numbers (string s) h e = tt
  has_numbers (array ds) h e = items_have_numbers ds h e
  has_numbers (object ms) h e = members_have_numbers ms h e

  items_have_numbers : (ds : Items) → ItemsFit ds → items_have_float ds ≡ false → tree.ItemsHaveNumbers (items_outline ds)
  items_have_numbers no_items h e = tt
  items_have_numbers (item d ds) h e = let f = neither (has_float d) (items_have_float ds) e in (has_numbers d h.0 f.0, items_have_numbers ds h.1 f.1)

  members_have_numbers : (ms : Members) → MembersFit ms → members_have_float ms ≡ false → tree.MembersHaveNumbers (members_outline ms)
  members_have_numbers no_members h e = tt
  members_have_numbers (member k d ms) h e = let f = neither (has_float d) (members_have_float ms) e in (has_numbers d h.0 f.0, members_have_numbers ms h.1 f.1)

pub written_is_read : (d : Data) → NumbersFit d → has_float d ≡ false → IsInOrder d → depth d ≤ max_depth → read (compact_text d) ≡ Some d
written_is_read d h e o shallow =
    let ts = tree.json_tokens (outline d) in
    let same : tokens (compact_text d) ≡ ts = ap tokens (sym (print-outline d)) ∙ tokens-print ts (ArePrintable-json_tokens (outline d) (has_numbers d h e)) in
    let parsed : json.value max_depth (tokens (compact_text d)) ≡ Some (outline d, []) =
    ap (json.value max_depth) (same ∙ sym (append-nil ts)) ∙ value-json_tokens (outline d) max_depth [] (omega (arith, depth_printed d)) in
    ap (λ p. option_and_then of_json (option_and_then (λ q. json.if_last q.0 q.1) p)) parsed ∙ data_read d h e o
