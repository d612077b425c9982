use Rattle.canary_measure.proofs.Forms.{one_form as only_form}
use Rattle.canary_measure.proofs.laws.one_form.Goals as goal

pub returns : goal.returns
returns c = only_form c.one_ending.ensures
