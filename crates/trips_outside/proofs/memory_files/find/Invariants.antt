use Rattle.std.proofs.Common.{◌≡◌, drop, map, string_bytes}
use Rattle.trips_outside.specs.inside.MemoryFiles.{held_among}
use Rattle.trips_outside.proofs.memory_files.find.Given as goal

abbrev pub invariant-loop-file : goal.invariant-loop-file
invariant-loop-file l = record {
  number : l.number ≡ l.file-index;
  so_far : held_among (map (λ file. (string_bytes file.0, file.1.items)) l.files) l.name
      ≡ held_among (map (λ file. (string_bytes file.0, file.1.items)) (drop l.file-index l.files))
      l.name;
}
