use Rattle.std.proofs.Common.{subst}
use Rattle.std.specs.Prelude.{List}
use Rattle.c_pre.specs.Headers.{Row}
use Rattle.c_pre.specs.Lines.{included}
use Rattle.c_pre.specs.inside.Gives.{Gives}
use Rattle.c_pre.proofs.reader.Reader.include_names.Goals as goal

pub returns : goal.returns
returns c =
    subst
    (λ (rows : List Row). Gives (included c.args.offset rows c.args.self.now) c.include.result c.include.new.self)
    c.names_of.ensures c.include.ensures
