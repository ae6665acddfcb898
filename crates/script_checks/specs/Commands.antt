-- How a tenant's commands are written.
use Rattle.std.specs.Prelude.{ℕ, ◌||◌, if◌then◌else◌, List, Option, Some, None, codes}
use Rattle.giotto_tasks.specs.Names.{same_name}

-- the forms of the commands that begin with this word; `load` and `replace` take any text
abbrev pub forms_of : List ℕ → Option (List ℕ)
forms_of word =
    if same_name word (codes "start") || same_name word (codes "stop") || same_name word (codes "trace") || same_name word (codes "rows")
    then Some (codes "nothing comes after this word")
    else (if same_name word (codes "show") then Some (codes "`show mode`, `show all`, `show port NAME` or `show port TASK.NAME`")
    else (if same_name word (codes "offer") then Some (codes "`offer NAME to TENANT` or `offer NAME to TENANT from LO to HI`, LO not above HI")
    else (if same_name word (codes "unoffer") then Some (codes "`unoffer NAME to TENANT`")
    else (if same_name word (codes "bind") then Some (codes "`bind NAME from TENANT.NAME`")
    else (if same_name word (codes "unbind") then Some (codes "`unbind NAME`") else None)))))
