use Rattle.std.proofs.Common.{◌≡◌, map, max, drop}
use Rattle.c_constant.specs.Need.{needs, args_need}
use Rattle.c_constant.specs.inside.Need.{capped}
use Rattle.c_constant.proofs.needs.+need.Given as goal

abbrev pub invariant-args_need-loop-arg : goal.invariant-args_need-loop-arg
invariant-args_need-loop-arg l = record {
  place : l.at ≡ capped l.arg-index;
  same : capped (args_need 0 (map needs l.args))
      ≡ max l.most (capped (args_need l.arg-index (map needs (drop l.arg-index l.args))));
}
