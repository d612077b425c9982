use Rattle.std.proofs.Common.{◌≡◌, ◌≤◌, ◌+◌, sym, ap, ◌∙◌, arith}
use Rattle.std.specs.Option.{option_or}
use Rattle.std.specs.FinMap as map
use Rattle.canary_tables.specs.CacheMaps.{weights, value_if, at_name}
use Rattle.canary_tables.proofs.EntryLemmas.{get_held, removed, taken_weighs}
use Rattle.canary_tables.proofs.cache_map.CacheMap.take.Goals as goal

pub overflow_sub-self : goal.overflow_sub-self
overflow_sub-self g c =
    let r : weights c.remove-recent.new.self.entries + c.weight_of.result ≡ weights c.self.inside.recent.entries = taken_weighs c.self.inside.recent.entries c.remove-recent.new.self.entries c.args.name c.remove-recent.result c.weight_of.result c.weight_of.ensures c.remove-recent.ensures.value c.remove-recent.ensures.entries in
    let i : weights c.self.inside.recent.entries + weights c.self.inside.earlier.entries ≡ c.self.inside.weight = c.self.invariant.0 in
    omega arith

pub overflow_sub-self-2 : goal.overflow_sub-self-2
overflow_sub-self-2 g c =
    let r : weights c.remove-recent.new.self.entries + c.weight_of.result ≡ weights c.self.inside.recent.entries = taken_weighs c.self.inside.recent.entries c.remove-recent.new.self.entries c.args.name c.remove-recent.result c.weight_of.result c.weight_of.ensures c.remove-recent.ensures.value c.remove-recent.ensures.entries in
    let e : weights c.remove-earlier.new.self.entries + c.weight_of-2.result ≡ weights c.self.inside.earlier.entries = taken_weighs c.self.inside.earlier.entries c.remove-earlier.new.self.entries c.args.name c.remove-earlier.result c.weight_of-2.result c.weight_of-2.ensures c.remove-earlier.ensures.value c.remove-earlier.ensures.entries in
    let i : weights c.self.inside.recent.entries + weights c.self.inside.earlier.entries ≡ c.self.inside.weight = c.self.invariant.0 in
    omega arith

pub invariant_of-self : goal.invariant_of-self
invariant_of-self g c =
    let r : weights c.remove-recent.new.self.entries + c.weight_of.result ≡ weights c.self.inside.recent.entries = taken_weighs c.self.inside.recent.entries c.remove-recent.new.self.entries c.args.name c.remove-recent.result c.weight_of.result c.weight_of.ensures c.remove-recent.ensures.value c.remove-recent.ensures.entries in
    let e : weights c.remove-earlier.new.self.entries + c.weight_of-2.result ≡ weights c.self.inside.earlier.entries = taken_weighs c.self.inside.earlier.entries c.remove-earlier.new.self.entries c.args.name c.remove-earlier.result c.weight_of-2.result c.weight_of-2.ensures c.remove-earlier.ensures.value c.remove-earlier.ensures.entries in
    let i : weights c.self.inside.recent.entries + weights c.self.inside.earlier.entries ≡ c.self.inside.weight = c.self.invariant.0 in
    let j : c.self.inside.weight ≤ c.self.inside.room = c.self.invariant.1 in
    (omega arith, omega arith)

pub returns-clause-value : goal.returns-clause-value
returns-clause-value g c =
    c.value_in.ensures
    ∙ ap (λ o. value_if (option_or o c.remove-earlier.result)) c.remove-recent.ensures.value
    ∙ ap (λ o. value_if (option_or (at_name c.self.inside.recent.entries c.args.name) o)) c.remove-earlier.ensures.value
    ∙ sym (get_held c.self.inside.recent.entries c.self.inside.earlier.entries c.args.name) ∙ ap (λ m. map.get m c.args.name) c.self.view_is

pub returns-clause-rest : goal.returns-clause-rest
returns-clause-rest g c =
    removed c.self.inside.recent.entries c.self.inside.earlier.entries c.remove-recent.new.self.entries c.remove-earlier.new.self.entries c.args.name c.remove-recent.ensures.updates.0 c.remove-earlier.ensures.updates.0
    ∙ ap (λ m. map.remove m c.args.name) c.self.view_is
