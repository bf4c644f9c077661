use Rattle.std.proofs.Common.{rules, ◌≡◌, ◌≤◌, ◌-◌, List, ℕ, drop, length, take, ◌∙◌, arith}
use Rattle.std.proofs.lemmas.List.{length-drop, take_all}
use Rattle.grid_tallies.proofs.tallies.Tallies.stations.Goals as goal

pub returns : goal.returns
returns c =
    let xs : List ℕ = c.args.self.now.numbers in
    let left : length (drop 12 xs) ≡ length xs - 12 = length-drop 12 xs in
    let few : length (drop 12 xs) ≤ 16 = omega (arith, left) in
    let read : borrow.Rule.Slice.PartMut.mid_of 12 16 xs ≡ take 16 (drop 12 xs) = search rules in
    c.copy_from_slice.ensures.after ∙ read ∙ take_all 16 (drop 12 xs) few
