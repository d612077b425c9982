-- What a command line means, and what of it a desk reads.
use Rattle.std.specs.Prelude.{ℕ, List, ◌++◌, codes, decimal}

-- two reports mean the same if they are of the same service, run and metric, and of the same
-- outcome: `"result":RESULT` or `"failure":TEXT`
abbrev pub report_intent : List ℕ → ℕ → List ℕ → List ℕ → List ℕ
report_intent service run metric outcome =
    codes "report "
    ++ (service
    ++ (codes " "
    ++ (decimal run ++ (codes " " ++ (metric ++ (codes " " ++ outcome))))))

-- the most bytes of a request's body that a desk reads
abbrev pub most_body : ℕ
most_body = 65536
