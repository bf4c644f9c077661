-- What is written of the parts of a text is its listing.
use Rattle.std.proofs.Common.{◌≡◌, List, ℕ, subst, ap, ap₂, ◌∙◌}
use Rattle.trips_isa.specs.declared.block.Image.{Image}
use Rattle.c_tree.specs.Limits.{most_tokens}
use Rattle.c_tree.specs.declared.tree.Program.{Program}
use Rattle.c_tree.specs.declared.tree.Top.{Top}
use Rattle.c_pre.specs.Texts.{Tokens, Lexed}
use Rattle.c_grammar.specs.Accepted.{IsUnit}
use Rattle.target_asm_spec.specs.Text.{TargetText}
use Rattle.target_file.specs.Bare.{lines_of}
use Rattle.trips_listing_text.specs.declared.told.Told.{Told}
use Rattle.trips_listing_text.specs.Functions.{told_all}
use Rattle.trips_listing_text.specs.Comments.{comments}
use Rattle.trips_listing_text.specs.Listed.{listed}
use Rattle.trips_listing_answers.specs.Listings.{IsWritten}

-- the parts are lent to each call, and are what they were
pub is_written : (text : List ℕ) (i : Image) (entries : List ℕ) (tokens : Tokens) (tree : Program)
    (target report : List ℕ) (lent lent2 : Tokens) (items : List Top) (told told2 : List Told)
    (entries2 target2 : List ℕ) → Lexed most_tokens text tokens → lent ≡ tokens → IsUnit lent tree.items
    → lent2 ≡ tokens → items ≡ tree.items → told ≡ told_all text lent2 items → TargetText i target
    → entries2 ≡ entries → told2 ≡ told → target2 ≡ target
    → report ≡ listed (comments entries2 told2) 0 (lines_of target2) → IsWritten text i entries report
is_written text i entries tokens tree target report lent lent2 items told told2 entries2 target2 lexed same unit
    same2 those tells spelled begin tells2 target_is written =
    record {
      tokens = tokens;
      lexed = lexed;
      tree = tree;
      unit = subst (λ (ts : Tokens). IsUnit ts tree.items) same unit;
      target = target;
      spelled = spelled;
      is = written
          ∙ ap (λ (es : List ℕ). listed (comments es told2) 0 (lines_of target2)) begin
          ∙ ap (λ (all : List Told). listed (comments entries all) 0 (lines_of target2))
          (tells2 ∙ tells ∙ ap₂ (λ (ts : Tokens) (xs : List Top). told_all text ts xs) same2 those)
          ∙ ap (λ (t : List ℕ). listed (comments entries (told_all text tokens tree.items)) 0 (lines_of t)) target_is;
    }
