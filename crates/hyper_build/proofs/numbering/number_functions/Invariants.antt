use Rattle.std.proofs.Common.{◌≡◌, ◌++◌, drop, map}
use Rattle.ir_forms.specs.inside.FlatViews.{function_of}
use Rattle.hyper_build.specs.inside.Ground.{plan}
use Rattle.hyper_build.specs.inside.Forward.{number_all, entries_from}
use Rattle.hyper_build.proofs.numbering.number_functions.Given as goal

abbrev pub invariant-loop-f : goal.invariant-loop-f
invariant-loop-f l = record {
  numbers : number_all (plan l.site) (map function_of (drop l.f-index l.functions)) l.numbering
      ≡ number_all (plan l.site) (map function_of l.functions) l.fn.numbering;
  entries : l.entries
      ++ entries_from (plan l.site) (map function_of (drop l.f-index l.functions)) l.numbering
      ≡ entries_from (plan l.site) (map function_of l.functions) l.fn.numbering;
}
