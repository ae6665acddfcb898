pub mod ShownPorts
