use Rattle.std.proofs.Common.{ℕ}
use Rattle.trips_isa.specs.declared.block.Block.{Block}
use Rattle.trips_isa.specs.Fits.{FitsBlock}
use Rattle.trips_isa.specs.Rule.{Answer}
use Rattle.trips_isa.specs.Blocks.{Responses, computes}
use Rattle.trips_isa.specs.inside.Blocks.{Solves}
use Rattle.block_cases.specs.Blocks.{nodes_of, wanted_of}
use Rattle.block_cases.specs.Good.{GoodBlock}
use Rattle.block_cases.specs.inside.Good.{OneToken}
use Rattle.block_cases.specs.inside.Shapes.{shape}
use Rattle.block_cases.proofs.Placed.{nodes_placed}
use Rattle.block_cases.proofs.OneToken.{good_machine}
use Rattle.block_cases.proofs.AnyBits.{one_producer, one_at_most}
use Rattle.block_cases.proofs.Unique.{fires_once, present_shape}
use Rattle.block_cases.proofs.law.good_blocks_keep_one_token.Goals as goal

law : (b : Block) → FitsBlock b → GoodBlock b → (responses : Responses) (g : ℕ → Answer)
    → Solves b responses g → OneToken (nodes_of b) (wanted_of b) (λ x. shape (g x))
law b f good responses g t = good_machine (nodes_of b) (wanted_of b) good.ranked
    (nodes_placed b f) good.good (computes b responses) g t

pub returns-clause-tokens : goal.returns-clause-tokens
returns-clause-tokens c = law

pub returns-clause-producers : goal.returns-clause-producers
returns-clause-producers c = λ b f good responses g t q x y lt n k p r. one_producer (nodes_of b)
    (λ z. shape (g z)) q (one_at_most (nodes_of b) (wanted_of b) (λ z. shape (g z))
    (law b f good responses g t) q lt) x y n k (present_shape (g x) p) (present_shape (g y) r)

pub returns-clause-once : goal.returns-clause-once
returns-clause-once c = λ b f good responses g t. fires_once (nodes_of b) (wanted_of b) g
    (law b f good responses g t)
