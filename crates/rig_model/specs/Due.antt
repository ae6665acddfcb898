-- What is due at a mode time.
use Rattle.std.specs.Prelude.{ℕ, ◌/◌, ◌%◌, ◌==◌, Bool}
use Rattle.giotto_rules.specs.text.Program.{ModeDeclaration}

-- what has frequency w in a mode happens at the mode times that are multiples of P / w
abbrev pub is_due_at : ℕ → ModeDeclaration → ℕ → Bool
is_due_at time m w = time % (m.period / w) == 0
