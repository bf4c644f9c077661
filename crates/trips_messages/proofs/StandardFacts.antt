-- Messages, worked by hand.
use Rattle.std.proofs.Common.{◌≡◌, ◌++◌, refl, codes, []}
use Rattle.std.specs.Fmt.{digits}
use Rattle.trips_messages.specs.declared.fault.Fault.TheVariants as fault
use Rattle.trips_messages.specs.Messages.{message, message_without_place}
use Rattle.trips_messages.specs.Texts.{sentence, title}

pub struct_is : message (codes "a.c") (codes "int a;\n\tstruct s;\n") [] 2 fault.Syntax 8
    ≡ codes "a.c:2:2: parse Syntax: 'struct' is left out: write a variable for each member, and an array for "
    ++ codes "each member of many\n\tstruct s;\n\t^\n"
unfolding digits sentence title
struct_is = refl

pub no_main_is : message_without_place (codes "a.c") fault.NoMain
    ≡ codes "a.c: type NoMain: no function int main(void) with a body is defined\n"
unfolding sentence title
no_main_is = refl
