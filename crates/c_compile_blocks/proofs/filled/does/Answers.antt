use Rattle.std.proofs.Common.{ap}
use Rattle.ir_forms.specs.inside.HyperFits.{is_filled}
use Rattle.c_compile_blocks.proofs.FilledItems.{set_is, load_is, save_is, if_is}
use Rattle.c_compile_blocks.proofs.filled.does.Goals as goal

pub returns-in-Set : goal.returns-in-Set
returns-in-Set c = λ rest. let s = c.in-Set in ap is_filled (set_is c.args.item.now s.to s.op s.a s.b rest s.is)

pub returns-in-Load : goal.returns-in-Load
returns-in-Load c = λ rest. let s = c.in-Load in ap is_filled (load_is c.args.item.now s.to s.op s.address rest s.is)

pub returns-in-Save : goal.returns-in-Save
returns-in-Save c = λ rest.
    let s = c.in-Save in ap is_filled (save_is c.args.item.now s.op s.address s.value rest s.is)

pub returns-in-If : goal.returns-in-If
returns-in-If c = λ rest. let s = c.in-If in ap is_filled (if_is c.args.item.now s.test s.yes s.no rest s.is)
