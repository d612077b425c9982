-- Lists of values.
use Rattle.std.proofs.Common.{◌≡◌, ℕ, suc, ◌+◌, ◌<◌, ◌≤◌, List, ◌∷◌, length, drop, get_or, refl, add-one, Bool, true, false}
use Rattle.std.proofs.Math.Seq.{drop-cons}
use Rattle.std.proofs.lemmas.List.{drop_all}
use Rattle.serde_json.specs.Data.{Data}
use Rattle.serde_json.specs.Events.{items_len}
use Rattle.serde_json.specs.View.{view, items_view}
use Rattle.serde_json.specs.declared.value.Value.{Value}
use Rattle.serde_json.proofs.Views.{items_len-items_view}
use Rattle.canary_manifest.specs.Members.{any_item}

pub items_len_view : (vs : List Value) → items_len (items_view vs) ≡ length vs
items_len_view = items_len-items_view

-- ---- a list tested item after item (canary_canonical, proofs/Items, has one read so)

pub any_step : (p : Data → Bool) (list : List Value) (i : ℕ) (d : Value) → i < length list → p (view (get_or list i d)) ≡ false
    → any_item p (items_view (drop i list)) ≡ any_item p (items_view (drop (i + 1) list))
any_step p list i d h e =
    let s : drop i list ≡ get_or list i d ∷ drop (suc i) list = drop-cons list i d h in
    rw (s, add-one, e) refl

pub any_here : (p : Data → Bool) (list : List Value) (i : ℕ) (d : Value) → i < length list → p (view (get_or list i d)) ≡ true → any_item p (items_view (drop i list)) ≡ true
any_here p list i d h e =
    let s : drop i list ≡ get_or list i d ∷ drop (suc i) list = drop-cons list i d h in
    rw (s, e) refl

pub any_end : (p : Data → Bool) (list : List Value) (i : ℕ) → length list ≤ i → any_item p (items_view (drop i list)) ≡ false
any_end p list i h = rw (drop_all i list h) refl

-- what a loop that looks for an item goes by
pub ruleset tested_in_turn = (any_step, any_here, any_end)
