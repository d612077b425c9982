use Rattle.canary_argo.proofs.TextReports.{float_reported}
use Rattle.canary_argo.proofs.reporting.text_of.Goals as goal

pub returns-in-FloatText-Float : goal.returns-in-FloatText-Float
returns-in-FloatText-Float c =
    float_reported c.args.form.beside c.args.form.places c.args.text.now c.in-FloatText-Float.reading c.number_of.result c.in-FloatText-Float.is-0 c.in-FloatText-Float.is-1 c.number_of.ensures
