use Rattle.std.proofs.Common.{◌≡◌, ◌++◌, true, take}
use Rattle.std.specs.List.{list_all}
use Rattle.std.specs.Prelude.{flat_map}
use Rattle.canary_provider.specs.Lines.{is_line}
use Rattle.canary_provider.specs.Messages.{ended}
use Rattle.canary_provider.proofs.message.put_all.Given as goal

-- the lines so far
abbrev pub invariant-loop-line : goal.invariant-loop-line
invariant-loop-line l = record {
  bytes : l.bytes.items ≡ l.fn.bytes.items ++ flat_map ended (take l.line-index l.lines);
  lines : list_all is_line (take l.line-index l.lines) ≡ true;
}
