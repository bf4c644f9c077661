-- What is told of a run, by what the code has of its text, its image and its end.
use Rattle.std.proofs.Common.{◌≡◌, List, ℕ, [], ◌++◌, subst, sym, ap, ◌∙◌}
use Rattle.c_tree.specs.Limits.{most_tokens}
use Rattle.c_tree.specs.declared.token.Lexeme.{Lexeme}
use Rattle.c_tree.specs.declared.tree.Program.{Program}
use Rattle.c_tree.specs.declared.tree.Top.{Top}
use Rattle.c_pre.specs.Texts.{Lexed}
use Rattle.c_grammar.specs.Accepted.{IsUnit}
use Rattle.trips_isa.specs.declared.block.Image.{Image}
use Rattle.trips_isa.specs.declared.run.Ending.{Ending}
use Rattle.grid_place.specs.declared.placed.Placing.TheVariants.{Greedy}
use Rattle.c_compile.specs.Listed.{IsListed}
use Rattle.trips_listing_text.specs.declared.told.Told.{Told}
use Rattle.trips_listing_text.specs.Comments.{comments}
use Rattle.trips_listing_text.specs.Functions.{told_all}
use Rattle.trips_listing_answers.specs.Traps.{IsTrapTold, end_of, ending_told}

-- the code sees tokens, items, functions and first blocks as slices of these
pub is_trap_told : (text input : List ℕ) (budget : ℕ) (image : Image) (entries : List ℕ) (tokens seen again : List Lexeme)
    (tree : Program) (items : List Top) (all told : List Told) (begins before out : List ℕ) (ending : Ending)
    → IsListed text Greedy 1 image entries → Lexed most_tokens text tokens → seen ≡ tokens → again ≡ tokens
    → IsUnit seen tree.items → items ≡ tree.items → all ≡ told_all text again items → told ≡ all → begins ≡ entries
    → ending ≡ end_of image input budget → before ≡ []
    → out ≡ before ++ ending_told budget (comments begins told) ending
    → IsTrapTold text input budget out
is_trap_told text input budget image entries tokens seen again tree items all told begins before out ending listed lexed e f
    unit g h i j k m l = record {
      image = image;
      entries = entries;
      listed = listed;
      tokens = tokens;
      lexed = lexed;
      tree = tree;
      unit = subst (λ (ts : List Lexeme). IsUnit ts tree.items) e unit;
      is = l
          ∙ ap (λ (x : List ℕ). x ++ ending_told budget (comments begins told) ending) m
          ∙ ap (λ (x : Ending). ending_told budget (comments begins told) x) k
          ∙ ap (λ (x : List ℕ). ending_told budget (comments x told) (end_of image input budget)) j
          ∙ ap (λ (x : List Told). ending_told budget (comments entries x) (end_of image input budget))
          (i ∙ h ∙ ap (λ (ts : List Lexeme). told_all text ts items) f ∙ ap (told_all text tokens) g);
    }
