pub mod ProgramLines
pub mod ShownPorts
