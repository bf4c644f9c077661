use Rattle.ir_forms.specs.inside.FlatViews.{program_of}
use Rattle.c_compile.proofs.CutPrograms.{few_blocks}
use Rattle.c_compile.proofs.compiling.compile_listed.Goals as goal

pub compiled-requires : goal.compiled-requires
compiled-requires c =
    let l = c.in_ok-flat.ensures.ok in
    record {
      fits = l.fits;
      few = few_blocks c.args.text.now (program_of c.in_ok-flat.flat) l;
      some = c.requires.some;
    }

pub returns-in-Ok-clause-ok : goal.returns-in-Ok-clause-ok
returns-in-Ok-clause-ok c =
    record {
      image = record {
        some = c.requires.some;
        flat = program_of c.in_ok-flat.flat;
        lowered = c.in_ok-flat.ensures.ok;
        compiled = c.in-Ok.ensures.compiled;
      };
      begin = c.in-Ok.ensures.begin;
    }
