-- The sessions of a tenant on a server.
use Rattle.std.specs.Prelude.{◌≢◌, ℕ, List, Option, codes, string_bytes}
use Rattle.rig_client.specs.Ends.{IsAsked}
use Rattle.rig_client.specs.declared.answers.Server.{Server}
use Rattle.rig_client.specs.declared.sessions.Sessions.{Sessions}

-- the line with which each session begins
abbrev pub hello_of : {C : Type 0} → Sessions C → List ℕ
hello_of sessions = string_bytes sessions.hello

-- a session has begun: this line greeted the server on some connection
abbrev pub HasBegun : {R W : Type 0} → (W → Option (List ℕ)) → (R → Option (List ℕ)) → List ℕ → Server R W → Type 0
HasBegun contents remaining hello begun = (connected : Server _ _) × IsAsked contents remaining connected begun hello (codes "ok hello\n")

-- this was answered to the greeting on some connection, and is no welcome
abbrev pub IsRefused : {R W : Type 0} → (W → Option (List ℕ)) → (R → Option (List ℕ)) → List ℕ → List ℕ → Type 0
IsRefused {R} {W} contents remaining hello answer =
    (connected : Server R W) × (after : Server R W) × IsAsked contents remaining connected after hello answer × (answer ≢ codes "ok hello\n")

-- The answer to a line. If the pass of the session is full, the line is sent again in a new session, and that answer counts.
pub data IsAskedAtLast {R W : Type 0} (contents : W → Option (List ℕ)) (remaining : R → Option (List ℕ)) (hello : List ℕ) (old new : Server R W) (line answer : List ℕ) : Type 0 where
  at_once : IsAsked contents remaining old new line answer → answer ≢ codes "bye pass-full\n" → IsAskedAtLast contents remaining hello old new line answer
  again : (full begun : Server R W) → IsAsked contents remaining old full line (codes "bye pass-full\n") → HasBegun contents remaining hello begun
      → IsAsked contents remaining begun new line answer → IsAskedAtLast contents remaining hello old new line answer
