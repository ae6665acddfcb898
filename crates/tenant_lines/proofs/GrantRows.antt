-- Which lines are commands about grants, computed from the definitions.
use Rattle.std.proofs.Common.{◌≡◌, ℕ, pos, neg_ℤ, List, Option, Some, None, codes, refl}
use Rattle.tenant_lines.specs.declared.grant_lines.GrantCommand.{GrantCommand}
use Rattle.tenant_lines.specs.declared.grant_lines.GrantCommand.TheVariants.{Offer, Unoffer, Bind, Unbind, Rows}
use Rattle.tenant_lines.specs.declared.commands.Command.TheVariants.{Grants}
use Rattle.tenant_lines.specs.CommandLine.{command_of_line}
use Rattle.tenant_lines.specs.GrantLines.{grant_command_of_words}
use Rattle.tenant_lines.specs.Words.{words_of}

abbrev spelled : List ℕ → Option GrantCommand
spelled line = grant_command_of_words (words_of line)

pub offer_to : spelled (codes "offer a to beta") ≡ Some (Offer (codes "a") (codes "beta") None)
offer_to = refl

pub offer_within_bounds : spelled (codes "offer a to beta from 0 to 5") ≡ Some (Offer (codes "a") (codes "beta") (Some (record { low = pos 0; high = pos 5 })))
offer_within_bounds = refl

pub bounds_below_zero : spelled (codes "offer a to beta from -007  to\t007 ") ≡ Some (Offer (codes "a") (codes "beta") (Some (record { low = neg_ℤ (pos 7); high = pos 7 })))
bounds_below_zero = refl

pub one_value : spelled (codes "offer a to beta from 7 to 7") ≡ Some (Offer (codes "a") (codes "beta") (Some (record { low = pos 7; high = pos 7 })))
one_value = refl

pub bounds_out_of_order : spelled (codes "offer a to beta from 9 to 7") ≡ None
bounds_out_of_order = refl

pub bound_beyond_all_values : spelled (codes "offer a to beta from 0 to 9223372036854775808") ≡ None
bound_beyond_all_values = refl

pub bound_with_a_plus : spelled (codes "offer a to beta from +0 to 5") ≡ None
bound_with_a_plus = refl

pub no_greatest_value : spelled (codes "offer a to beta from 0 to") ≡ None
no_greatest_value = refl

pub greatest_value_alone : spelled (codes "offer a to beta to 5") ≡ None
greatest_value_alone = refl

pub word_behind_bounds : spelled (codes "offer a to beta from 0 to 5 now") ≡ None
word_behind_bounds = refl

pub other_word_before_bounds : spelled (codes "offer a to beta with 0 to 5") ≡ None
other_word_before_bounds = refl

pub unoffer_of_bounds : spelled (codes "unoffer a to beta from 0 to 5") ≡ None
unoffer_of_bounds = refl

pub unoffer_to : spelled (codes "unoffer a to beta") ≡ Some (Unoffer (codes "a") (codes "beta"))
unoffer_to = refl

pub bind_from : spelled (codes "bind g from alpha.a") ≡ Some (Bind (codes "g") (codes "alpha") (codes "a"))
bind_from = refl

pub unbind_name : spelled (codes "unbind g") ≡ Some (Unbind (codes "g"))
unbind_name = refl

pub rows_alone : spelled (codes "rows") ≡ Some Rows
rows_alone = refl

pub blanks_between : spelled (codes " \toffer  a\tto   beta \r") ≡ Some (Offer (codes "a") (codes "beta") None)
blanks_between = refl

pub blanks_at_ends : spelled (codes "  rows\r") ≡ Some Rows
blanks_at_ends = refl

pub great_letter : spelled (codes "offer a to Gamma") ≡ Some (Offer (codes "a") (codes "Gamma") None)
great_letter = refl

pub keywords_are_names : spelled (codes "bind from from to.line") ≡ Some (Bind (codes "from") (codes "to") (codes "line"))
keywords_are_names = refl

pub digit_first : spelled (codes "offer a to 9x") ≡ None
digit_first = refl

pub other_word_between : spelled (codes "offer a from beta") ≡ None
other_word_between = refl

pub offer_of_port : spelled (codes "offer T.a to beta") ≡ None
offer_of_port = refl

pub offer_to_nobody : spelled (codes "offer a to") ≡ None
offer_to_nobody = refl

pub word_behind_offer : spelled (codes "offer a to beta now") ≡ None
word_behind_offer = refl

pub bind_to_tenant : spelled (codes "bind g from alpha") ≡ None
bind_to_tenant = refl

pub two_dots : spelled (codes "bind g from a.b.c") ≡ None
two_dots = refl

pub blank_behind_dot : spelled (codes "bind g from alpha. a") ≡ None
blank_behind_dot = refl

pub unbind_two : spelled (codes "unbind g h") ≡ None
unbind_two = refl

pub rows_now : spelled (codes "rows now") ≡ None
rows_now = refl

pub blank_line : spelled (codes " ") ≡ None
blank_line = refl

-- for a tenant, such a line is one of its commands
pub offer_commanded : command_of_line (codes "offer a to beta") ≡ Some (Grants (Offer (codes "a") (codes "beta") None))
offer_commanded = refl

pub unoffer_commanded : command_of_line (codes "unoffer a to beta") ≡ Some (Grants (Unoffer (codes "a") (codes "beta")))
unoffer_commanded = refl

pub bind_commanded : command_of_line (codes " bind g  from alpha.a\r") ≡ Some (Grants (Bind (codes "g") (codes "alpha") (codes "a")))
bind_commanded = refl

pub unbind_commanded : command_of_line (codes "unbind g") ≡ Some (Grants (Unbind (codes "g")))
unbind_commanded = refl

pub rows_commanded : command_of_line (codes "rows") ≡ Some (Grants Rows)
rows_commanded = refl

pub rows_now_commanded : command_of_line (codes "rows now") ≡ None
rows_now_commanded = refl

pub no_word_commanded : command_of_line (codes " ") ≡ None
no_word_commanded = refl
