use Rattle.std.proofs.Common.{◌≡◌, drop, map}
use Rattle.canary_client_journal.specs.Meanings.{is_among}
use Rattle.canary_client_journal.proofs.meaning.is_one_of.Given as goal

-- the code is one of those that are left if it is one of all
abbrev pub invariant-loop-text : goal.invariant-loop-text
invariant-loop-text l = is_among (map (λ text. text.now) (drop l.text-index l.own)) l.code ≡ is_among (map (λ text. text.now) l.own) l.code
