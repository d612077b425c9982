use Rattle.std.proofs.Common.{◌≡◌, take, true}
use Rattle.std.specs.Prelude.{string_bytes}
use Rattle.std.specs.List.{list_all}
use Rattle.canary_argo.specs.Translating.{text_of, fits}
use Rattle.canary_argo.proofs.printing.text_of.Given as goal

-- the text so far, of groups that fit
abbrev pub invariant-loop-item : goal.invariant-loop-item
invariant-loop-item l = record {
  text_is : string_bytes l.out ≡ text_of l.form (take l.item-index l.items);
  fit : list_all (fits l.form) (take l.item-index l.items) ≡ true;
}
