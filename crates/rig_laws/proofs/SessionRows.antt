-- Sessions, from their bytes to the calls that they make and the bytes that answer them, computed from the definitions.
use Rattle.std.proofs.Common.{◌≡◌, ℕ, List, [], ◌∷◌, ◌++◌, refl}
use Rattle.std.specs.Prelude.{codes}
use Rattle.std.specs.Char.{encode_utf8}
use Rattle.std.specs.List.{flat_map}
use Rattle.std.specs.Str.{chars, is_utf8}
use Rattle.rig_model.specs.config.BuiltIn.{built_in_config}
use Rattle.rig_model.specs.Sessions.{ended, no_memory, pass_full, replied, session_of, strange, tenant, untold}
use Rattle.rig_model.specs.TextLines.{cut}
use Rattle.rig_model.specs.declared.lines.commands.Command.TheVariants.{ShowMode, Start}
use Rattle.rig_model.specs.declared.lines.replies.Reply.TheVariants.{Mode, Started}
use Rattle.rig_model.specs.declared.lines.replies.Status.TheVariants.{Empty}

-- lines, each followed by LF
abbrev lines : List (List ℕ) → List ℕ
lines ls = flat_map (λ l. l ++ 10 ∷ []) ls

-- A client that isn't greeted makes no call. An unknown tenant and a wrong key have the same reply. A blank line has no reply, and the last
-- line needs no LF.
greetings : session_of built_in_config (replied (Mode Empty) ∷ [])
    (cut (lines (codes "show mode" ∷ codes "hello alpha no" ∷ codes "hello nobody ka" ∷ codes "hello alpha ka" ∷ codes "hello alpha ka" ∷ [] ∷ []) ++ codes "show mode"))
    ≡ record {
      state = tenant 0;
      outcomes = [];
      calls = record { tenant = 0; command = ShowMode; reply = Mode Empty } ∷ [];
      text = lines (codes "err not-greeted" ∷ codes "err who" ∷ codes "err who" ∷ codes "ok hello" ∷ codes "err greeted" ∷ codes "ok mode empty" ∷ []);
    }
unfolding is_utf8 chars encode_utf8
greetings = refl

-- Nothing is answered after a refused call.
full_pass : session_of built_in_config (replied (Mode Empty) ∷ pass_full ∷ []) (cut (lines (codes "hello alpha ka" ∷ codes "show mode" ∷ codes "show mode" ∷ codes "rows" ∷ [])))
    ≡ record {
      state = ended;
      outcomes = [];
      calls = record { tenant = 0; command = ShowMode; reply = Mode Empty } ∷ [];
      text = lines (codes "ok hello" ∷ codes "ok mode empty" ∷ codes "bye pass-full" ∷ []);
    }
unfolding is_utf8 chars encode_utf8
full_pass = refl

strange_pass : session_of built_in_config (replied (Mode Empty) ∷ strange ∷ []) (cut (lines (codes "hello alpha ka" ∷ codes "show mode" ∷ codes "show mode" ∷ codes "rows" ∷ [])))
    ≡ record {
      state = ended;
      outcomes = [];
      calls = record { tenant = 0; command = ShowMode; reply = Mode Empty } ∷ [];
      text = lines (codes "ok hello" ∷ codes "ok mode empty" ∷ codes "bye strange" ∷ []);
    }
unfolding is_utf8 chars encode_utf8
strange_pass = refl

-- Running out of memory doesn't end the session. A call without memory isn't made. A call with no memory for its reply is made.
memory : session_of built_in_config (no_memory ∷ untold Started ∷ []) (cut (lines (codes "hello beta kb" ∷ codes "start" ∷ codes "start" ∷ codes "quit" ∷ codes "start" ∷ [])))
    ≡ record {
      state = ended;
      outcomes = [];
      calls = record { tenant = 1; command = Start; reply = Started } ∷ [];
      text = lines (codes "ok hello" ∷ codes "err memory" ∷ codes "err memory" ∷ codes "bye" ∷ []);
    }
unfolding is_utf8 chars encode_utf8
memory = refl

-- A name must have a name's shape, and a key is any word. No word may follow either, or "quit". A line that is not UTF-8 ends the session.
forms : session_of built_in_config []
    (cut (lines (codes "hello" ∷ codes "hello alpha" ∷ codes "hello 9x ka" ∷ codes "hello alpha ka now" ∷ codes "quit now" ∷ codes "fly" ∷ codes "\thello  alpha\tka\r" ∷ (0xff ∷ []) ∷ codes "quit" ∷ [])))
    ≡ record {
      state = ended;
      outcomes = [];
      calls = [];
      text = lines (
          codes "err bad-command" ∷ codes "err bad-command" ∷ codes "err bad-command" ∷ codes "err bad-command" ∷ codes "err bad-command" ∷ codes "err bad-command" ∷ codes "ok hello" ∷ codes "bye bad-line" ∷ []);
    }
unfolding is_utf8 chars encode_utf8
forms = refl

-- A client that isn't greeted may quit.
early_quit : (session_of built_in_config [] (cut (lines (codes "quit" ∷ codes "hello alpha ka" ∷ [])))).text ≡ lines (codes "bye" ∷ [])
unfolding is_utf8 chars encode_utf8
early_quit = refl
