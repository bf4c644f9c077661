use Rattle.predication.proofs.ExitLemmas.{leave_fits, both_fit, none_fit}
use Rattle.predication.proofs.conversion.+labels_fit.Goals as goal

pub returns-in-Leave : goal.returns-in-Leave
returns-in-Leave t c =
    leave_fits c.args.tail.now c.in-Leave.exit c.label_fits.result c.in-Leave.is c.label_fits.ensures

pub returns-then-labels_fit : goal.returns-then-labels_fit
returns-then-labels_fit t c =
    both_fit c.args.tail.now c.in-Test.test c.in-Test.yes c.in-Test.no c.get.result.now
    c.get-then-labels_fit.result.now c.labels_fit.result c.labels_fit-then-labels_fit.result c.in-Test.is
    c.get.ensures.value c.get-then-labels_fit.ensures.value c.labels_fit.ensures c.if-labels_fit.true
    c.labels_fit-then-labels_fit.ensures

pub returns-else-labels_fit : goal.returns-else-labels_fit
returns-else-labels_fit t c =
    none_fit c.args.tail.now c.in-Test.test c.in-Test.yes c.in-Test.no c.get.result.now c.labels_fit.result
    c.in-Test.is c.get.ensures.value c.labels_fit.ensures c.if-labels_fit.false
