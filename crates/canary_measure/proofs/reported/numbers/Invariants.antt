use Rattle.std.proofs.Common.{◌≡◌, map, take}
use Rattle.arrayvec.specs.ArrayVec.{array_vec_len}
use Rattle.canary_argo.specs.Reporting.{AllStand}
use Rattle.canary_measure.specs.Measures.{seen}
use Rattle.canary_measure.proofs.reported.numbers.Given as goal

-- the numbers so far stand for the values so far
abbrev pub invariant-loop-given : goal.invariant-loop-given
invariant-loop-given l =
    record {
      stand : AllStand l.form.beside l.form.places (map seen (take l.given-index l.values)) l.numbers.items;
      count : array_vec_len l.numbers ≡ l.given-index;
    }
