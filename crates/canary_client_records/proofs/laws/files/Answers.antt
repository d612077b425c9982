use Rattle.canary_client_records.proofs.TextLemmas.{reads_back, refuses_cut, refuses_gate}
use Rattle.canary_client_records.proofs.NewFiles.{only_new, takes_new}
use Rattle.canary_client_records.proofs.laws.files.Goals as goal

pub returns : goal.returns
returns c = record {
  back = reads_back;
  cut = refuses_cut;
  gate = refuses_gate;
  only_new = only_new;
  new = takes_new;
}
