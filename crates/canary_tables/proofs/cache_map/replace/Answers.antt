use Rattle.std.proofs.Common.{refl, ap, ◌∙◌}
use Rattle.canary_tables.specs.CacheMaps.{weights, weight_if}
use Rattle.canary_tables.proofs.EntryLemmas.{is_it, weights_stay, nothing_written}
use Rattle.canary_tables.proofs.cache_map.replace.Goals as goal
use Rattle.canary_tables.proofs.cache_map.replace.Goals.{in_default-via-in-Some+else-weight-get_mut, in_default-via-in-None-1}

pub returns-in-Some-clause-weights : goal.returns-in-Some-clause-weights
returns-in-Some-clause-weights g c =
    ap weights (c.get_mut.follows.holds (record { value = c.args.value; weight = c.in-Some.there.now.weight })).0
    ∙ weights_stay c.args.entries.now.entries (is_it c.args.name) (record { value = c.args.value; weight = c.in-Some.there.now.weight }) (ap weight_if c.in-Some.ensures.value)

pub returns-in_default-clause-weights : goal.returns-in_default-clause-weights
returns-in_default-clause-weights g c = elim c.in_default.branch [
  | in_default-via-in-Some+else-weight-get_mut w ↦
      ap (λ m. weights m.entries) w.entries-is ∙ ap weights ((c.get_mut.follows.holds w.in-Some.there.now).0 ∙ nothing_written c.args.entries.now.entries (is_it c.args.name) w.in-Some.there.now w.in-Some.ensures.value)
  | in_default-via-in-None-1 w ↦ ap (λ m. weights m.entries) (w.entries-is ∙ c.get_mut.follows.holds-at-none)
]

pub returns-in_default-clause-back : goal.returns-in_default-clause-back
returns-in_default-clause-back g c = (
  refl,
  elim c.in_default.branch [
    | in_default-via-in-Some+else-weight-get_mut w ↦
        ap (λ m. m.entries) w.entries-is ∙ (c.get_mut.follows.holds w.in-Some.there.now).0 ∙ nothing_written c.args.entries.now.entries (is_it c.args.name) w.in-Some.there.now w.in-Some.ensures.value
    | in_default-via-in-None-1 w ↦ ap (λ m. m.entries) (w.entries-is ∙ c.get_mut.follows.holds-at-none)
  ],
)
