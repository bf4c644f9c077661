-- The sentences of refusals, each behind the word at fault (docs/MESSAGES.md has a section for each fault).
use Rattle.std.specs.Prelude.{ℕ, List, codes}
use Rattle.trips_messages.specs.declared.fault.Fault.{Fault}
use Rattle.trips_messages.specs.declared.fault.Fault.TheVariants as fault
use Rattle.trips_messages.specs.declared.saying.Saying.{Saying}
use Rattle.trips_messages.specs.declared.saying.Saying.TheVariants as says

-- what is said
unfoldable pub sentence : Saying → List ℕ
sentence says.Strings =
    codes "begins no string: write characters and escapes on one line, and a closing quote"
sentence says.Member =
    codes "stands for a member of a struct or for more arguments, which are left out: use arrays and variables"
sentence says.Splice =
    codes "joins no lines here: write what belongs together on one line"
sentence says.LateHash =
    codes "begins a directive at the start of a line alone"
sentence says.OtherByte =
    codes "is the number of a byte that begins no token: outside comments a text has ASCII alone"
sentence says.NoToken =
    codes "begins no token"
sentence says.FloatingConstant =
    codes "is a floating constant, which is left out: write whole numbers, as hundredths"
sentence says.Character =
    codes "begins no character constant: write one character or one escape, and a closing quote"
sentence says.Number =
    codes "is no constant: write a whole number of 64 bits in base 8, 10 or 16, with u and l behind it or none"
sentence says.Comment =
    codes "begins a comment without end: write */ behind it"
sentence says.Tokens =
    codes "is the 8,193rd token, and a text may have 8,192: write loops and functions for what is repeated"
sentence says.Header =
    codes "includes no header that is here: write #include <stdio.h> or nothing, and define the rest in the text"
sentence says.Conditional =
    codes "chooses parts of a text by an expression, which is left out: write #ifdef, or the part that is wanted"
sentence says.OtherDirective =
    codes "is no directive that is here: only #include, #define, #undef, #ifdef, #ifndef, #else and #endif are"
sentence says.Aggregate =
    codes "is left out: write a variable for each member, and an array for each member of many"
sentence says.NewType =
    codes "names what is left out, or named already: name types of whole numbers and int constants, once in a block"
sentence says.Storage =
    codes "does not stand here: write the declaration without it, and an object of extern where it is defined"
sentence says.Qualifier =
    codes "does not stand here: write it beside the words of a type, or the type without it"
sentence says.Floating =
    codes "is a floating type, which is left out: use int or long, as for hundredths"
sentence says.Boolean =
    codes "does not stand here: write it without another word of a type"
sentence says.Jump =
    codes "is left out: use loops, break, continue and return"
sentence says.Size =
    codes "does not stand here: sizeof takes a type, or a value of names declared before, so write the bytes"
sentence says.Pointer =
    codes "does not stand here: pointers are left out but for parameters, so use an array and an index"
sentence says.Address =
    codes "does not stand here: addresses are left out, so return a value or set a global variable"
sentence says.Long =
    codes "does not stand here: write the words of one type, and long at most twice"
sentence says.Colon =
    codes "does not stand here: labels for goto are left out, and case stands in the braces of a switch alone"
sentence says.StringHere =
    codes "begins a string where none stands: it is an argument, or the value of an array of char"
sentence says.OpenBrace =
    codes "does not stand here: braces in a list are rows of an array of two sizes, and no function stands in another"
sentence says.Equals =
    codes "does not stand here: set a variable or an element of an array, and none that is const"
sentence says.Else =
    codes "has no if before it: look for a ; or a brace too many"
sentence says.CloseBrace =
    codes "does not stand here: look for a ; that is missing before it, also behind a label"
sentence says.NoText =
    codes "is all that stands here: write int main(void) { return 0; } at least"
sentence says.NotHere =
    codes "does not stand here: look for a ; or a bracket that is missing before it, or behind it at the end"
sentence says.Deep =
    codes "opens a construct at depth 65, and 64 is the most: use variables and functions"
sentence says.Group =
    codes "fits no group: write one #endif for each #ifdef and #ifndef, and one #else between at most"
sentence says.OtherBody =
    codes "gives a macro another body: write #undef before it, or another name"
sentence says.BadLine =
    codes "is no good line: write one name, for #define a space and the body behind it, and no parameters"
sentence says.Replaced =
    codes "makes more than 8,192 tokens with replaced names, strings and the library: write loops and functions"
sentence says.Format =
    codes "begins a format that printf has not here: write %d, %u, %x, %o, %c, %s or %%, and eight at most"
sentence says.Library =
    codes "is a name of the library that is not here: define what is needed of it in the text"
sentence says.Undeclared =
    codes "is not declared: write #include <stdio.h> before it"
sentence says.Printing =
    codes "wants #include <stdio.h> before it, and a string as its first argument"
sentence says.Classifying =
    codes "is not declared: write #include <ctype.h> before it"
sentence says.General =
    codes "is not declared: write #include <stdlib.h> before it"
sentence says.Copying =
    codes "is not declared: write #include <string.h> before it"
sentence says.NoFunction =
    codes "is called, and the text has no function of this name: define it before this place"
sentence says.NoName =
    codes "is not declared before this place"
sentence says.LabelTwice =
    codes "gives a label that stands in this switch already"
sentence says.NameTwice =
    codes "is declared a second time in its block, or defined a second time"
sentence says.Return =
    codes "gives a value in a function of type void, or none in a function of another type"
sentence says.NoLoop =
    codes "stands in no loop, nor break in a switch"
sentence says.NoFit =
    codes "does not fit here: look for an array or a void call as a value, a value that is set, or no constant"
sentence says.Arguments =
    codes "is called with too few or too many arguments"
sentence says.Main =
    codes "no function int main(void) with a body is defined"
sentence says.Scalars =
    codes "is the 65th variable of its function without brackets, and 64 are the most: use an array"
sentence says.Parameters =
    codes "is the ninth parameter, and eight are the most: use an array or global variables"
sentence says.Temporaries =
    codes "begins an expression that needs more than 16 values at once: keep parts of it in variables"
sentence says.Large =
    codes "is too large: an array, and all globals together, have 1,048,576 bytes at most"
sentence says.Undefined =
    codes "is declared, and the text defines it nowhere: write its body, or call nothing of this name"
sentence says.Late =
    codes "is declared behind this place alone: write its prototype or its definition before it"
sentence says.Near =
    codes "is not declared before this place: the nearest name that is declared is"
sentence says.NearFunction =
    codes "is called, and the text has no function of this name: the nearest name that is declared is"
sentence says.Semicolon =
    codes "does not stand here: wanted ; behind the expression or the statement before it"
sentence says.RightParen =
    codes "does not stand here: wanted ) behind the expression before it"
sentence says.RightBracket =
    codes "does not stand here: wanted ] behind the expression before it"
sentence says.LastBrace =
    codes "ends the text too early: wanted } behind it"
sentence says.NotOpened =
    codes "closes nothing that is open: look for one too many, or one that is missing before it"
sentence says.NoType =
    codes "stands behind a name that is no type: write int, char, short or long, also with unsigned"
sentence says.Untyped =
    codes "has no type before it: write int, char, short or long, or void for a function without a value"

-- the stage that refuses, and the name of the fault
unfoldable pub title : Fault → List ℕ
title fault.BadByte = codes "lex BadByte"
title fault.BadLiteral = codes "lex BadLiteral"
title fault.Unclosed = codes "lex Unclosed"
title fault.TooManyTokens = codes "lex TooManyTokens"
title fault.Directive = codes "lex Directive"
title fault.Unbalanced = codes "directive Unbalanced"
title fault.Redefined = codes "directive Redefined"
title fault.BadDefine = codes "directive BadDefine"
title fault.TooManyReplaced = codes "directive TooManyTokens"
title fault.Format = codes "directive Format"
title fault.Syntax = codes "parse Syntax"
title fault.TooDeep = codes "parse TooDeep"
title fault.Unknown = codes "type Unknown"
title fault.Twice = codes "type Twice"
title fault.Mismatch = codes "type Mismatch"
title fault.Arity = codes "type Arity"
title fault.NoMain = codes "type NoMain"
title fault.TooManyScalars = codes "type TooManyScalars"
title fault.TooManyParams = codes "type TooManyParams"
title fault.Need = codes "type Need"
title fault.TooLarge = codes "type TooLarge"
