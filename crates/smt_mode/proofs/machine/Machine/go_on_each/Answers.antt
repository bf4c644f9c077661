use Rattle.smt_mode.proofs.FetchesOf.{four_on}
use Rattle.smt_mode.proofs.machine.Machine.go_on_each.Goals as goal

pub go_on_one-requires-2-clause-ready : goal.go_on_one-requires-2-clause-ready
go_on_one-requires-2-clause-ready g c = c.go_on_one.ensures.keeps.ready

pub go_on_one-requires-3-clause-ready : goal.go_on_one-requires-3-clause-ready
go_on_one-requires-3-clause-ready g c = c.go_on_one-2.ensures.keeps.ready

pub go_on_one-requires-4-clause-ready : goal.go_on_one-requires-4-clause-ready
go_on_one-requires-4-clause-ready g c = c.go_on_one-3.ensures.keeps.ready

pub returns-clause-change : goal.returns-clause-change
returns-clause-change g c =
    let one = c.go_on_one in
    let two = c.go_on_one-2 in
    let three = c.go_on_one-3 in
    let four = c.go_on_one-4 in
    (four_on c.args.self.now one.new.self two.new.self three.new.self four.new.self one.ensures.change
    one.ensures.keeps two.ensures.change two.ensures.keeps three.ensures.change three.ensures.keeps
    four.ensures.change
    four.ensures.keeps).0

pub returns-clause-keeps : goal.returns-clause-keeps
returns-clause-keeps g c =
    let one = c.go_on_one in
    let two = c.go_on_one-2 in
    let three = c.go_on_one-3 in
    let four = c.go_on_one-4 in
    (four_on c.args.self.now one.new.self two.new.self three.new.self four.new.self one.ensures.change
    one.ensures.keeps two.ensures.change two.ensures.keeps three.ensures.change three.ensures.keeps
    four.ensures.change
    four.ensures.keeps).1
