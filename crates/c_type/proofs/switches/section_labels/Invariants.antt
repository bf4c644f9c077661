use Rattle.std.proofs.Common.{◌≡◌, ◌++◌, map, take, drop}
use Rattle.c_type.specs.Statements.{label_word, labels_fault}
use Rattle.c_type.proofs.switches.section_labels.Given as goal

abbrev pub invariant-loop-label : goal.invariant-loop-label
invariant-loop-label l = record {
  same_fault : labels_fault l.kind l.fn.seen l.labels l.names
      ≡ labels_fault l.kind l.seen (drop l.label-index l.labels) l.names;
  so_far : l.found ≡ map (label_word l.kind) (take l.label-index l.labels);
  all_seen : l.seen ≡ l.fn.seen ++ l.found;
}
