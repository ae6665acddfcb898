-- The log of a run of two seats, computed from the definitions.
use Rattle.std.proofs.Common.{◌≡◌, ℕ, pos, List, [], ◌∷◌, ◌++◌, refl, reverse, None}
use Rattle.std.specs.Prelude.{codes}
use Rattle.std.specs.Fmt.{digits}
use Rattle.std.specs.List.{flat_map}
use Rattle.rig_model.proofs.of_text.Adder.{adder_text}
use Rattle.rig_model.specs.config.BuiltIn.{built_in_config}
use Rattle.rig_model.specs.declared.lines.commands.Command.{Command}
use Rattle.rig_model.specs.declared.lines.commands.Command.TheVariants.{Load, Start, ShowPort}
use Rattle.rig_model.specs.declared.lines.ports.PortName.{PortName}
use Rattle.rig_model.specs.declared.lines.replies.Reply.{Reply}
use Rattle.rig_model.specs.declared.lines.replies.Reply.TheVariants.{Loaded, Started, Port}
use Rattle.rig_laws.proofs.cited.LaterBase.{new_is_base}
use Rattle.rig_model.specs.declared.logged.Call.{Call}
use Rattle.rig_model.specs.declared.logged.Logged.{Logged}
use Rattle.rig_model.specs.declared.logged.Logged.TheVariants as logged
use Rattle.rig_model.specs.Base.{Setting, new_base}
use Rattle.rig_model.specs.Logs.{IsLegalLog, calls_of_seat, answers_in}

-- lines, each followed by LF
abbrev answered : List (List ℕ) → List ℕ
answered lines = flat_map (λ l. l ++ 10 ∷ []) lines

abbrev call : ℕ → Command → Reply → Call
call t command reply = record { tenant = t; command = command; reply = reply }

abbrev port_a : PortName
port_a = record { task = None; name = codes "a" }

abbrev tick : ℕ → Logged
tick v = logged.Tick (pos v ∷ [])

-- Seat 0 makes calls for alpha, seat 1 for beta. Alpha's adder reads 5 at its release and writes 6 at its deadline.
abbrev pub run : List Logged
run =
    logged.Call 0 (call 0 (Load adder_text) Loaded) ∷ logged.Call 1 (call 1 (Load adder_text) Loaded) ∷ logged.Call 0 (call 0 Start Started)
    ∷ tick 5 ∷ logged.Done (record { tenant = 0; tick = 0; task = codes "T" }) ∷ tick 7 ∷ tick 9
    ∷ logged.Call 0 (call 0 (ShowPort port_a) (Port (record { port = port_a; value = pos 6 }))) ∷ []

abbrev setting : Setting
setting = record { config = built_in_config; base = new_base built_in_config 0 }

pub run_is_legal : IsLegalLog setting (reverse run)
run_is_legal = record {
  history = record { base = new_is_base built_in_config 0; legal = refl };
  holds = (refl, (tt, (tt, (refl, (tt, (refl, (refl, (refl, tt))))))));
}

pub calls_of_alpha : calls_of_seat 0 run ≡ call 0 (Load adder_text) Loaded ∷ call 0 Start Started ∷ call 0 (ShowPort port_a) (Port (record { port = port_a; value = pos 6 })) ∷ []
calls_of_alpha = refl

pub answers_to_alpha : answers_in (reverse run) 0 ≡ answered (codes "ok load" ∷ codes "ok start" ∷ codes "ok port a 6" ∷ [])
unfolding digits
answers_to_alpha = refl
