-- Which lines are commands, and which of them take memory, computed from the definitions.
use Rattle.std.proofs.Common.{◌≡◌, true, false, [], Some, None, codes, refl}
use Rattle.std.specs.Option.{option_map}
use Rattle.tenant_lines.specs.declared.commands.Command.TheVariants.{Load, Replace, Stop, ShowMode, ShowPort, ShowAll, Trace}
use Rattle.tenant_lines.specs.CommandLine.{command_of_line}
use Rattle.tenant_lines.specs.cited.Copies.{has_text}

pub stop_alone : command_of_line (codes " stop\r") ≡ Some Stop
stop_alone = refl

pub show_mode : command_of_line (codes "show mode") ≡ Some ShowMode
show_mode = refl

pub show_all : command_of_line (codes "show  all ") ≡ Some ShowAll
show_all = refl

pub port_of_no_task : command_of_line (codes "show port a") ≡ Some (ShowPort (record { task = None; name = codes "a" }))
port_of_no_task = refl

pub port_of_task : command_of_line (codes "show port T.i") ≡ Some (ShowPort (record { task = Some (codes "T"); name = codes "i" }))
port_of_task = refl

pub no_name_behind_dot : command_of_line (codes "show port T.") ≡ None
no_name_behind_dot = refl

pub no_task_before_dot : command_of_line (codes "show port .i") ≡ None
no_task_before_dot = refl

pub two_dots : command_of_line (codes "show port T.i.j") ≡ None
two_dots = refl

pub word_too_many : command_of_line (codes "show mode now") ≡ None
word_too_many = refl

pub blank_in_port : command_of_line (codes "show port T. i") ≡ None
blank_in_port = refl

pub trace_alone : command_of_line (codes " trace\r") ≡ Some Trace
trace_alone = refl

pub word_behind_trace : command_of_line (codes "trace x") ≡ None
word_behind_trace = refl

pub load_text : command_of_line (codes " load start m;") ≡ Some (Load (codes "start m;"))
load_text = refl

pub replace_text : command_of_line (codes "replace start m;") ≡ Some (Replace (codes "start m;"))
replace_text = refl

-- the first blank separates the word from the text; all others belong to the text
pub blanks_of_text : command_of_line (codes " replace  start m; \r") ≡ Some (Replace (codes " start m; \r"))
blanks_of_text = refl

pub tab_before_text : command_of_line (codes "replace\tstart m;") ≡ Some (Replace (codes "start m;"))
tab_before_text = refl

pub no_text : command_of_line (codes "replace") ≡ Some (Replace [])
no_text = refl

pub blank_alone : command_of_line (codes "replace ") ≡ Some (Replace [])
blank_alone = refl

pub other_word : command_of_line (codes "replace;") ≡ None
other_word = refl

-- a text takes memory, and an empty one doesn't
pub text_takes_memory : option_map has_text (command_of_line (codes "load start m;")) ≡ Some true
text_takes_memory = refl

pub no_text_takes_none : option_map has_text (command_of_line (codes "load")) ≡ Some false
no_text_takes_none = refl

pub blank_alone_takes_none : option_map has_text (command_of_line (codes "replace ")) ≡ Some false
blank_alone_takes_none = refl
