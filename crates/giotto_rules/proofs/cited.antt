pub mod ExamplePrograms
pub mod ProgramParts
pub mod RulesKept
